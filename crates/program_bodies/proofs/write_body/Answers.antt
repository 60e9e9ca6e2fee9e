use Rattle.program_body_words.specs.Bodies as B
use Rattle.program_bodies.proofs.write_body.Goals as goal

pub find_levels-levels-requires : goal.find_levels-levels-requires
find_levels-levels-requires c = let x = c.requires in ((_, x.given), B.wait_inside x)

pub write_entry_tests-first-requires : goal.write_entry_tests-first-requires
write_entry_tests-first-requires c =
    (c.requires.found.size, B.items_fit c.requires c.find_levels-levels.result (c.find_levels-levels.ensures.1 _) c.row_size.ensures.0)

pub write_symbols-end-requires : goal.write_symbols-end-requires
write_symbols-end-requires c =
    B.symbols_fit c.requires c.find_levels-levels.result (c.find_levels-levels.ensures.1 _) c.row_size.ensures.0 c.write_entry_tests-first.ensures

pub write_end-requires : goal.write_end-requires
write_end-requires c =
    B.end_fit c.requires c.find_levels-levels.result (c.find_levels-levels.ensures.1 _) c.row_size.ensures.0 c.write_entry_tests-first.ensures c.write_symbols-end.ensures

pub shape_of-area : goal.shape_of-area
shape_of-area c =
    B.body_size_kept c.requires c.find_levels-levels.result (c.find_levels-levels.ensures.1 _) c.row_size.ensures.0 c.write_entry_tests-first.ensures c.write_symbols-end.ensures c.write_end.ensures

pub returns : goal.returns
returns c =
    λ x. B.body_written x c.find_levels-levels.result (c.find_levels-levels.ensures.1 _) c.row_size.ensures.0 c.write_entry_tests-first.ensures c.write_symbols-end.ensures c.write_end.ensures

use Rattle.std.proofs.Common.{arith, ◌∙◌}
use Rattle.program_block_words.specs.Patch.{wrote_length}
use Rattle.program_words.specs.Built.{well_formed_lem}
use Rattle.program_words.specs.Directory.{alternatives}
use Rattle.program_words.specs.Sections as S
use Rattle.program.proofs.build.Goals as goal

pub write_segment-requires : goal.write_segment-requires
write_segment-requires c = ((_, _, _, _, c.requires.0.outline), c.requires.1)

pub write_productions-end-requires : goal.write_productions-end-requires
write_productions-end-requires c =
    let x = c.requires.0 in
    (x, omega (arith, c.requires.1, wrote_length (c.write_segment.ensures _ _ _ _ x.outline)))

pub write_directory-requires : goal.write_directory-requires
write_directory-requires c =
    let x = c.requires.0 in
    let segment = wrote_length (c.write_segment.ensures _ _ _ _ x.outline) in
    let productions = S.productions_length _ _ c.write_productions-end.ensures in
    ((alternatives x, S.productions_recorded _ _ (well_formed_lem x.outline) (omega (arith, c.requires.1, segment)) c.write_productions-end.ensures), omega (arith, c.requires.1, productions, segment))

pub shape_of-area : goal.shape_of-area
shape_of-area c =
    let x = c.requires.0 in
    let segment = wrote_length (c.write_segment.ensures _ _ _ _ x.outline) in
    let recorded = S.productions_recorded _ _ (well_formed_lem x.outline) (omega (arith, c.requires.1, segment)) c.write_productions-end.ensures in
    wrote_length (c.write_directory.ensures (alternatives x) recorded) ∙ (S.productions_length _ _ c.write_productions-end.ensures ∙ segment)

pub returns : goal.returns
returns c =
    let x = c.requires.0 in
    let segment = wrote_length (c.write_segment.ensures _ _ _ _ x.outline) in
    let recorded = S.productions_recorded _ _ (well_formed_lem x.outline) (omega (arith, c.requires.1, segment)) c.write_productions-end.ensures in
    let w = S.program_written x c.requires.1 (c.write_segment.ensures _ _ _ _ x.outline) c.write_productions-end.ensures (c.write_directory.ensures (alternatives x) recorded) in
    record { memory = w.0; size = w.1 }

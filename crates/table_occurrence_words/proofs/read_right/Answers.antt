use Rattle.table_occurrence_words.proofs.read_right.Goals as goal

pub place_right-requires : goal.place_right-requires
place_right-requires c =
    let pre = c.requires in
    (pre.0, pre.1, pre.2, pre.3, pre.4, c.place_left.ensures.inputs _, c.place_left.ensures.others _)

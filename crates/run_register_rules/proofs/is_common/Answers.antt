use Rattle.run_register_rules.proofs.is_common.Goals as goal

pub returns : goal.returns
returns c = c.common_word.ensures

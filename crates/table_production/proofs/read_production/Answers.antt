use mathlib.Core.Path.{refl}
use native.Mathlib.Omega.{arith}
use Rattle.table_production.proofs.Producing.{small_body}
use Rattle.table_production.proofs.ProductionRows.{production_refused, production_read, production_stopped}
use Rattle.table_production.proofs.Wording.{rights_read}
use Rattle.table_production.proofs.read_production.Goals as goal

pub returns-in-Err-clause-read : goal.returns-in-Err-clause-read
returns-in-Err-clause-read c =
    let field = c.in-Err.ensures in
    rw c.refusal_at.ensures (production_refused _ _ _ _ _ _ _ _ _ _ _ _ _ field.judged c.requires.8 _ _ refl (omega arith) field.kept)

pub read_body-requires : goal.read_body-requires
read_body-requires c =
    let field = c.in-Ok.ensures in
    let known = field.judged.known refl in
    (known.long, small_body _ _ _ _ _ _ _ _ known c.requires.4, c.requires.5, c.requires.6, c.requires.9, c.requires.10, field.placed)

pub returns-in-Ok-read_body-clause-read : goal.returns-in-Ok-read_body-clause-read
returns-in-Ok-read_body-clause-read c =
    let field = c.in-Ok.ensures in
    let body = c.in-Ok-read_body.ensures in
    production_read _ _ _ _ _ _ _ _ _ _ _ _ _ field.judged c.requires.8 refl _ _ refl field.copied _ body.read body.next body.inside

pub returns-in-Ok-read_body-clause-words : goal.returns-in-Ok-read_body-clause-words
returns-in-Ok-read_body-clause-words c =
    let field = c.in-Ok.ensures in
    rights_read _ _ _ _ _ (field.judged.known refl) _ refl _ _ c.requires.7 field.copied _ _ field.worded

pub returns-in-Err-read_body-clause-read : goal.returns-in-Err-read_body-clause-read
returns-in-Err-read_body-clause-read c =
    let field = c.in-Ok.ensures in
    let body = c.in-Err-read_body.ensures in
    rw c.refusal_at-in-Err-read_body.ensures (production_stopped _ _ _ _ _ _ _ _ _ _ _ _ _ field.judged c.requires.8 refl _ _ refl field.copied _ body.read body.inside)

use Prim.Native.Nat.{◌+◌, ◌-◌}
use native.Mathlib.Omega.{arith}
use mathlib.Core.Path.{◌≡◌, ap}
use lib.ListN.{get_or}
use lib.IntN.{pos}
use mir.Facts.{to_z-of_z}
use borrow.Author.Rules.{sfits_of}
use Rattle.std.specs.Prelude.{Ok, Err}
use Rattle.std.proofs.lemmas.Result.{err_from_is_err_and}
use Rattle.theory_base.specs.Feeds.{four_of}
use Rattle.theory_program.specs.Addresses.{segment_at}
use Rattle.theory_program.specs.WordsStand.{stands_within}
use Rattle.run_looking.specs.Judging.{looks_ahead, taken_of}
use Rattle.run_next_token.specs.Turns.{turned_judged, turned_read}
use Rattle.run_next_token.specs.Reading.{turned_after, turned_then}
use Rattle.run_next_token.proofs.read_next.Goals as goal

pub returns-in_err-judged : goal.returns-in_err-judged
returns-in_err-judged c =
    let a = c.args in
    let p = err_from_is_err_and c.from_residual.result c.from_residual.ensures.1 in
    rw (p.1, p.2) (turned_judged a.limits.bound a.limits.most a.program.now a.kinds.now a.values.now a.registers.now a.places.now a.run (a.run.tokens - a.limits.from) c.requires.0.even c.in_err-judged.field-0.0 (ap looks_ahead c.requires.1) c.in_err-judged.ensures)

pub carried-held-requires : goal.carried-held-requires
carried-held-requires c =
    let a = c.args in
    let here = taken_of a.limits.bound a.limits.most a.kinds.now (a.run.tokens - a.limits.from) a.run.tokens c.in_ok-judged.ensures in
    (omega (arith, stands_within (segment_at c.requires.0.running.held.begins)), omega (arith, here.2, c.requires.0.few))

pub returns-in_err-next : goal.returns-in_err-next
returns-in_err-next c =
    let a = c.args in
    let i = a.run.tokens - a.limits.from in
    let p = err_from_is_err_and c.from_residual-in_err-next.result c.from_residual-in_err-next.ensures.1 in
    let fits = sfits_of c.carried-arg-1.given in
    let here = taken_of a.limits.bound a.limits.most a.kinds.now i a.run.tokens c.in_ok-judged.ensures in
    rw (p.1, p.2) (turned_read a.limits.bound a.limits.most a.program.now a.kinds.now a.values.now a.registers.now a.places.now a.run i c.requires.0.even c.in_ok-judged.ensures
    c.read.new.registers c.read.new.places (Err c.in_err-next.field-0.0) c.requires.1 (omega (arith, here.2, c.requires.0.few)) (four_of (get_or a.values.now i (pos 0)) fits)
    (rw (to_z-of_z (sfits_of c.carried-held.type_inv), c.carried-held.ensures, to_z-of_z fits) at c.in_err-next.ensures))

pub read_plain_tokens-requires : goal.read_plain_tokens-requires
read_plain_tokens-requires c =
    let a = c.args in
    let i = a.run.tokens - a.limits.from in
    let q = c.requires.0 in
    let fits = sfits_of c.carried-arg-1.given in
    let here = taken_of a.limits.bound a.limits.most a.kinds.now i a.run.tokens c.in_ok-judged.ensures in
    let t = turned_read a.limits.bound a.limits.most a.program.now a.kinds.now a.values.now a.registers.now a.places.now a.run i q.even c.in_ok-judged.ensures
    c.read.new.registers c.read.new.places (Ok c.in_ok-next.next) c.requires.1 (omega (arith, here.2, q.few)) (four_of (get_or a.values.now i (pos 0)) fits)
    (rw (to_z-of_z (sfits_of c.carried-held.type_inv), c.carried-held.ensures, to_z-of_z fits) at c.in_ok-next.ensures) in
    let k = turned_after c.in_ok-judged.ensures q.running t in
    ((c.read.new.registers, a.values.now, record { running = k.2; few = q.few; even = q.even; alone = q.alone }), omega (arith, k.1, c.requires.3))

pub returns : goal.returns
returns c =
    let a = c.args in
    let i = a.run.tokens - a.limits.from in
    let q = c.requires.0 in
    let n = c.in_ok-next.next in
    let fits = sfits_of c.carried-arg-1.given in
    let here = taken_of a.limits.bound a.limits.most a.kinds.now i a.run.tokens c.in_ok-judged.ensures in
    let t = turned_read a.limits.bound a.limits.most a.program.now a.kinds.now a.values.now a.registers.now a.places.now a.run i q.even c.in_ok-judged.ensures
    c.read.new.registers c.read.new.places (Ok n) c.requires.1 (omega (arith, here.2, q.few)) (four_of (get_or a.values.now i (pos 0)) fits)
    (rw (to_z-of_z (sfits_of c.carried-held.type_inv), c.carried-held.ensures, to_z-of_z fits) at c.in_ok-next.ensures) in
    let k = turned_after c.in_ok-judged.ensures q.running t in
    let same : n.tokens - a.limits.from ≡ i + (n.tokens - a.run.tokens) = omega (arith, k.1, c.requires.3) in
    turned_then same (c.read_plain_tokens.ensures a.values.now c.read.new.registers q.even) t

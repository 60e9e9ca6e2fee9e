use Prim.Native.Nat.{ℕ, ◌+◌, ◌-◌, ◌≤◌, ◌<◌}
use native.Mathlib.Omega.{arith}
use mathlib.Core.Path.{◌≡◌, refl, sym, ap, ◌∙◌, subst}
use mathlib.Core.Bool.{true}
use lib.ListN.{length, get_or}
use Rattle.theory_program.specs.Addresses.{segment_at}
use Rattle.theory_program.specs.WordsStand.{stands_within}
use Rattle.run_looking.specs.Judging.{judged_taken}
use Rattle.run_moves.specs.Held.{bounds}
use Rattle.run_next_token.specs.Operations.{Running}
use Rattle.run_next_token.specs.Reading.{is_plain_read}
use Rattle.run_next_token.specs.Following.{after_reads, passed_by, FollowBy, follow_none, follow_more}
use Rattle.run_next_token.proofs.behind_reads.Goals.{At-loop-i, In-loop-i, Start}
use Rattle.run_next_token.proofs.behind_reads.Goals as goal

abbrev start : At-loop-i → Start
start l = l.before.before.before.before.before.before.before

-- how many reads are behind, and where the first token stands
abbrev count : At-loop-i → ℕ
count l = l.loop-i.at - (start l).args.run.at

abbrev first : At-loop-i → ℕ
first l = (start l).args.run.tokens - (start l).args.limits.from

follows : (l : At-loop-i) → (let a = (start l).args in FollowBy a.limits.bound a.limits.most a.program.now a.kinds.now (first l) a.run (count l))
follows l = l.loop-i.invariant.2 (start l).args.run refl l.end_within_limits-till.ensures

-- a configuration is held after them
running : (l : At-loop-i) → (let s = start l in let a = s.args in Running a.program.now s.requires.0.1.0 (passed_by a.program.now a.run (count l) s.requires.0.0) (after_reads a.run (count l)))
running l =
    let p = (start l).requires.0 in
    (follows l p.0 p.1.0 p.1.1 p.1.2.even p.1.2.running).1

-- the token at hand is within the limits
here : (l : In-loop-i) → (let s = start (record { before = l.before.before; type_inv = record { kinds = l.before.before.shared_slice_known-2-1.given; program = l.before.before.shared_slice_known-1.given } }) in let a = s.args in let n = count (record { before = l.before.before; type_inv = record { kinds = l.before.before.shared_slice_known-2-1.given; program = l.before.before.shared_slice_known-1.given } }) in (first (record { before = l.before.before; type_inv = record { kinds = l.before.before.shared_slice_known-2-1.given; program = l.before.before.shared_slice_known-1.given } }) + n < length a.kinds.now) × (a.run.tokens + n ≤ a.limits.most))
here l =
    let w = l.end_within_limits-till.ensures (count (record { before = l.before.before; type_inv = record { kinds = l.before.before.shared_slice_known-2-1.given; program = l.before.before.shared_slice_known-1.given } })) (omega (arith, l.loop-i.invariant.1, l.loop-i-test.true)) in
    (w.0, w.1)

pub end_within_limits-till-requires : goal.end_within_limits-till-requires
end_within_limits-till-requires c =
    let p = c.requires in
    let k = bounds p.0.1.2.running.held in
    (p.1, k.tokens, k.moves)

pub loop-i-init : goal.loop-i-init
loop-i-init c = (omega arith, omega arith, λ run e w. subst (FollowBy _ _ _ _ _ run) (omega arith) (follow_none _ _ _ _ _ run))

pub bounds-kinds-i : goal.bounds-kinds-i
bounds-kinds-i c = let l = c.before.before in omega (arith, (here (record { before = l; type_inv = record { kinds = l.shared_slice_known-2-1.given; program = l.shared_slice_known-1.given } })).0, l.loop-i.invariant.1)

pub overflow_cast-look : goal.overflow_cast-look
overflow_cast-look c = omega (arith, (c.shared_slice_known-in-loop-i-1.given c.loop-i.i).fits)

pub returns-then-limits-look : goal.returns-then-limits-look
returns-then-limits-look c = let l = c.before.before.before.before.before in (l.loop-i.invariant.0, follows (record { before = l; type_inv = record { kinds = l.shared_slice_known-2-1.given; program = l.shared_slice_known-1.given } }))

pub is_plain_read-requires : goal.is_plain_read-requires
is_plain_read-requires c =
    let l = c.before.before.before.before.before in
    let h = (running (record { before = l; type_inv = record { kinds = l.shared_slice_known-2-1.given; program = l.shared_slice_known-1.given } })).held in
    (omega (arith, (bounds h).inside, l.loop-i.invariant.0), omega (arith, stands_within (segment_at h.begins)), omega (arith, c.if-limits-look.false, (start (record { before = l; type_inv = record { kinds = l.shared_slice_known-2-1.given; program = l.shared_slice_known-1.given } })).requires.0.1.2.few))

pub returns-then-not-is_plain_read : goal.returns-then-not-is_plain_read
returns-then-not-is_plain_read c = let l = c.before.before.before.before.before.before.before in (l.loop-i.invariant.0, follows (record { before = l; type_inv = record { kinds = l.shared_slice_known-2-1.given; program = l.shared_slice_known-1.given } }))

pub overflow_add-at : goal.overflow_add-at
overflow_add-at c =
    let l = c.before.before.before.before.before.before.before in
    omega (arith, (bounds (running (record { before = l; type_inv = record { kinds = l.shared_slice_known-2-1.given; program = l.shared_slice_known-1.given } })).held).inside, l.loop-i.invariant.0)

pub loop-i-smaller : goal.loop-i-smaller
loop-i-smaller c = omega (arith, c.loop-i-test.true)

pub loop-i-preserved : goal.loop-i-preserved
loop-i-preserved c =
    let t = c.before.before.before.before.before.before in
    let l = t.before in
    let a = (start (record { before = l; type_inv = record { kinds = l.shared_slice_known-2-1.given; program = l.shared_slice_known-1.given } })).args in
    let n = count (record { before = l; type_inv = record { kinds = l.shared_slice_known-2-1.given; program = l.shared_slice_known-1.given } }) in
    let v = l.loop-i.invariant in (
      omega (arith, v.0),
      omega (arith, v.0, v.1),
      λ run e w.
          let us = a.kinds.now in
          let k = w n (omega (arith, v.1, t.loop-i-test.true)) in
          let is : l.loop-i.i ≡ first (record { before = l; type_inv = record { kinds = l.shared_slice_known-2-1.given; program = l.shared_slice_known-1.given } }) + n = v.1 in
          let at : l.loop-i.at ≡ run.at + n = omega (arith, v.0, e) in
          let low : get_or us (first (record { before = l; type_inv = record { kinds = l.shared_slice_known-2-1.given; program = l.shared_slice_known-1.given } }) + n) 0 < a.limits.bound = omega (arith, ap (λ x. get_or us x 0) is, c.if-limits-look.false) in
          let bare : is_plain_read a.program.now (run.at + n) (get_or us (first (record { before = l; type_inv = record { kinds = l.shared_slice_known-2-1.given; program = l.shared_slice_known-1.given } }) + n) 0) ≡ true =
          sym (ap (λ x. is_plain_read a.program.now x (get_or us (first (record { before = l; type_inv = record { kinds = l.shared_slice_known-2-1.given; program = l.shared_slice_known-1.given } }) + n) 0)) at) ∙ (sym (ap (λ x. is_plain_read a.program.now l.loop-i.at (get_or us x 0)) is) ∙ (sym c.is_plain_read.ensures ∙ c.if-not-is_plain_read.false)) in
          subst (FollowBy a.limits.bound a.limits.most a.program.now us (first (record { before = l; type_inv = record { kinds = l.shared_slice_known-2-1.given; program = l.shared_slice_known-1.given } })) run) (omega (arith, v.0))
          (follow_more a.limits.bound a.limits.most a.program.now us (first (record { before = l; type_inv = record { kinds = l.shared_slice_known-2-1.given; program = l.shared_slice_known-1.given } })) run n (judged_taken a.limits.bound a.limits.most us (first (record { before = l; type_inv = record { kinds = l.shared_slice_known-2-1.given; program = l.shared_slice_known-1.given } }) + n) (run.tokens + n) k.0 k.1 low) (omega (arith, low, (start (record { before = l; type_inv = record { kinds = l.shared_slice_known-2-1.given; program = l.shared_slice_known-1.given } })).requires.0.1.2.few)) bare k.2 (v.2 run e w)),
    )

pub returns : goal.returns
returns c = let l = c.before.before in (l.loop-i.invariant.0, follows (record { before = l; type_inv = record { kinds = l.shared_slice_known-2-1.given; program = l.shared_slice_known-1.given } }))

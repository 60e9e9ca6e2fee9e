use Rattle.std.proofs.Common.{◌≡◌, true, T, sym, ◌∙◌, arith}
use borrow.Author.Rules.{sfits_of}
use Rattle.meaning.specs.Grammar.{range, atmost}
use Rattle.meaning.specs.Differences.{lowered, constrained}
use Rattle.theory_sets.specs.Intervals.{entry, entered, compared, among_is}
use Rattle.clash_entries.specs.conditions.EntryConditions.{entry_here, condition_here, offset_here}
use Rattle.clash_entries.proofs.conditions.Laws as L
use Rattle.meaning.specs.Table.{byte, constant_at}
use Rattle.meaning.specs.Limits.{attributes_limit}
use Rattle.value.proofs.Bits.{held}
use Rattle.clash_entries.proofs.constrain.Goals as goal

pub returns-then-not-is_entry : goal.returns-then-not-is_entry
returns-then-not-is_entry c =
    let n = sym c.is_entry.ensures ∙ c.if-not-is_entry.true in
    record { met = L.field_passed constrained _ _ n; small = λ f. f }

pub between-requires : goal.between-requires
between-requires c =
    let is_range_lem : condition_here (c.args.field.now) ≡ range (byte (c.args.field.now) 5) (constant_at (c.args.field.now) 6) (constant_at (c.args.field.now) 10) = L.range_here _ _ c.byte_at.ensures.0 c.if-byte_at-eq0.true in
    let here : entry_here (c.args.field.now) ≡ true = sym c.is_entry.ensures ∙ c.if-not-is_entry.false in
    let proper : T (entry attributes_limit (condition_here (c.args.field.now))) = c.requires.1 here in
    let d = c.args.field.now in
    let k = entered attributes_limit (byte d 5) (constant_at d 6) (constant_at d 10) (rw is_range_lem at proper) in
    let b = c.bound_at in
    let b2 = c.bound_at-then-byte_at-eq0 in
    (c.requires.0, omega (arith, k.upto, c.byte_at-a.ensures.0), L.held_size {z = b.result} (sfits_of b.type_inv) b.ensures.1, L.held_size {z = b2.result} (sfits_of b2.type_inv) b2.ensures.1)

pub returns-then-byte_at-eq0 : goal.returns-then-byte_at-eq0
returns-then-byte_at-eq0 c =
    let here : entry_here (c.args.field.now) ≡ true = sym c.is_entry.ensures ∙ c.if-not-is_entry.false in
    let is_range_lem : condition_here (c.args.field.now) ≡ range (byte (c.args.field.now) 5) (constant_at (c.args.field.now) 6) (constant_at (c.args.field.now) 10) = L.range_here _ _ c.byte_at.ensures.0 c.if-byte_at-eq0.true in
    let m = c.args.m.now in
    let a = c.byte_at-a.ensures.0 in
    let l = held (sfits_of c.bound_at.type_inv) c.bound_at.ensures.0 in
    let h = held (sfits_of c.bound_at-then-byte_at-eq0.type_inv) c.bound_at-then-byte_at-eq0.ensures.0 in
    let e = c.between.ensures in
    record { met = e.met ∙ ((λ i. constrained (range (a i) (l i) (h i)) m) ∙ L.field_taken constrained _ m here _ is_range_lem); small = e.small }

pub at_most-requires : goal.at_most-requires
at_most-requires c =
    let is_compared : condition_here (c.args.field.now) ≡ atmost (byte (c.args.field.now) 5) (byte (c.args.field.now) 7) (offset_here (c.args.field.now)) = L.compare_here _ _ c.byte_at.ensures.0 c.if-byte_at-eq0.false in
    let here : entry_here (c.args.field.now) ≡ true = sym c.is_entry.ensures ∙ c.if-not-is_entry.false in
    let proper : T (entry attributes_limit (condition_here (c.args.field.now))) = c.requires.1 here in
    let d = c.args.field.now in
    let k = compared attributes_limit (byte d 5) (byte d 7) (offset_here d) (rw is_compared at proper) in
    let p = among_is attributes_limit (byte d 5) k.first in
    let q = among_is attributes_limit (byte d 7) k.second in
    (c.requires.0, omega (arith, p.1, c.byte_at-a.ensures.0), omega (arith, q.1, c.byte_at-b.ensures.0), L.held_size {z = c.offset.result} (sfits_of c.offset.type_inv) c.offset.ensures.1)

pub returns : goal.returns
returns c =
    let here : entry_here (c.args.field.now) ≡ true = sym c.is_entry.ensures ∙ c.if-not-is_entry.false in
    let is_compared : condition_here (c.args.field.now) ≡ atmost (byte (c.args.field.now) 5) (byte (c.args.field.now) 7) (offset_here (c.args.field.now)) = L.compare_here _ _ c.byte_at.ensures.0 c.if-byte_at-eq0.false in
    let o = c.before.before.before in
    let m = c.args.m.now in
    let a = c.byte_at-a.ensures.0 in
    let b = c.byte_at-b.ensures.0 in
    let d = held (sfits_of c.offset.type_inv) c.offset.ensures.0 in
    let e = c.at_most.ensures in
    record { met = e.met ∙ ((λ i. lowered m (a i) (b i) (d i)) ∙ L.field_taken constrained _ m here _ is_compared); small = e.small }

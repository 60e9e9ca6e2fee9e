use Rattle.std.proofs.Common.{ℕ, List, T, ◌≡◌, ◌<◌, ◌≤◌, set, true, sym, refl, ap, ◌∙◌, arith}
use Rattle.theory_sets.specs.Intervals.{entry, entered}
use Rattle.clash_entries.specs.conditions.BoundWords.{biased}
use Rattle.clash_entries.specs.conditions.EntryConditions.{entry_here, condition_here, rank_by, raise_by, lower_by}
use Rattle.clash_entries.proofs.conditions.Laws as L
use Rattle.meaning.specs.Table.{byte, signed, constant_at}
use Rattle.meaning.specs.Limits.{attributes_limit}
use Rattle.clash_entries.proofs.conditions.entry.narrow.Goals as goal

-- the attribute of a range, as an index
attribute_index : (d : List ℕ) → T (entry attributes_limit (condition_here d)) → byte d 3 ≡ 0 → (0 < byte d 5) × (byte d 5 ≤ attributes_limit)
attribute_index d proper z =
    let k = entered attributes_limit (byte d 5) (constant_at d 6) (constant_at d 10) (rw (L.range_here d _ refl z) at proper) in
    (k.from, k.upto)

pub returns-then-not-is_entry : goal.returns-then-not-is_entry
returns-then-not-is_entry c =
    let n = sym c.is_entry.ensures ∙ c.if-not-is_entry.true in
    record { said = L.field_passed rank_by _ _ n; low = L.field_passed raise_by _ _ n; high = L.field_passed lower_by _ _ n }

pub returns-then-byte_at-ne0 : goal.returns-then-byte_at-ne0
returns-then-byte_at-ne0 c =
    let here : entry_here (c.args.field.now) ≡ true = sym c.is_entry.ensures ∙ c.if-not-is_entry.false in
    let h = here in
    let e = L.compare_here _ _ c.byte_at.ensures.0 c.if-byte_at-ne0.true in
    record { said = L.field_taken rank_by _ _ h _ e; low = L.field_taken raise_by _ _ h _ e; high = L.field_taken lower_by _ _ h _ e }

pub overflow_sub-i : goal.overflow_sub-i
overflow_sub-i c = omega (arith, c.byte_at-2.ensures.0, attribute_index c.args.field.now (c.requires (sym c.is_entry.ensures ∙ c.if-not-is_entry.false)) (omega (arith, c.byte_at.ensures.0)))

pub bounds-lows-i : goal.bounds-lows-i
bounds-lows-i c = omega (arith, c.byte_at-2.ensures.0, attribute_index c.args.field.now (c.requires (sym c.is_entry.ensures ∙ c.if-not-is_entry.false)) (omega (arith, c.byte_at.ensures.0)))

pub bounds-lows-i-2 : goal.bounds-lows-i-2
bounds-lows-i-2 c = omega (arith, c.byte_at-2.ensures.0, attribute_index c.args.field.now (c.requires (sym c.is_entry.ensures ∙ c.if-not-is_entry.false)) (omega (arith, c.byte_at.ensures.0)))

pub bounds-highs-i : goal.bounds-highs-i
bounds-highs-i c = omega (arith, c.byte_at-2.ensures.0, attribute_index c.args.field.now (c.requires (sym c.is_entry.ensures ∙ c.if-not-is_entry.false)) (omega (arith, c.byte_at.ensures.0)))

pub bounds-highs-i-2 : goal.bounds-highs-i-2
bounds-highs-i-2 c = omega (arith, c.byte_at-2.ensures.0, attribute_index c.args.field.now (c.requires (sym c.is_entry.ensures ∙ c.if-not-is_entry.false)) (omega (arith, c.byte_at.ensures.0)))

pub returns : goal.returns
returns c =
    let h : entry_here c.args.field.now ≡ true = sym c.is_entry.ensures ∙ c.if-not-is_entry.false in
    let k = c.byte_at.ensures.0 in
    let z : c.byte_at.result ≡ 0 = omega arith in
    record {
      said = c.with_range.ensures ∙ L.field_taken rank_by _ _ h _ (L.range_here _ _ k z);
      low = L.raise_here _ _ h _ k z _ _ c.byte_at-2.ensures.0 refl _ _ (c.biased_word.ensures ∙ ap (λ z. biased (signed z)) c.word_at.ensures) (ap (set _ _) c.max.ensures);
      high = L.lower_here _ _ h _ k z _ _ c.byte_at-2.ensures.0 refl _ _ (c.biased_word-2.ensures ∙ ap (λ z. biased (signed z)) c.word_at-2.ensures) (ap (set _ _) c.min.ensures);
    }

-- What follows from the rules of 01 for each node in progress: its production is a listed one or the whole segment's.
use Rattle.std.specs.Prelude.{ℕ, zero, suc, ◌+◌, ◌≤◌, ◌<◌, ◌≡◌, refl, false, get_or, length, eqb}
use Rattle.std.proofs.Common.{arith, ap, ne_eqb}
use Rattle.std.proofs.Math.Decide.{dec_lt}
use Rattle.std.proofs.Math.ListN.{get_or-eq_default}
use Rattle.meaning.specs.Limits.{attributes_limit}
use Rattle.meaning.specs.Base.{In}
use Rattle.meaning.specs.Grammar.{Occurrence, Rule, Condition, Production, Grammar, production_at, whole_production, whole, no_counts}
use Rattle.meaning.specs.Rules.{Operands, Reads, Input, Output, OutputAt, Operand, Distinct, WellFormedProduction, WellFormed}
use Rattle.theory_base.specs.Members.{get_d_in}

-- ---- a listed production

pub not_whole : (g : Grammar) → WellFormed g → (p : ℕ) → p < length g.productions → eqb p whole ≡ false
not_whole g f p l = ne_eqb p whole (λ e. omega (arith, f.productions.1))

pub listed_at : (g : Grammar) → WellFormed g → (p : ℕ) → p < length g.productions → production_at g p ≡ get_or g.productions p (whole_production g)
listed_at g f p l = rw (not_whole g f p l) refl

pub well_formed_at : (g : Grammar) → WellFormed g → (p : ℕ) → p < length g.productions → WellFormedProduction g (production_at g p)
well_formed_at g f p l = rw (listed_at g f p l) (f.each (get_or g.productions p (whole_production g)) (get_d_in g.productions p (whole_production g) l))

-- ---- counts of attributes

pub counts_most : (g : Grammar) → WellFormed g → (n : ℕ) → (get_or g.counts n no_counts).inherited + (get_or g.counts n no_counts).synthesized ≤ attributes_limit
counts_most g w n = go (dec_lt n (length g.counts))
  where
    go : Dec (n < length g.counts) → (get_or g.counts n no_counts).inherited + (get_or g.counts n no_counts).synthesized ≤ attributes_limit
    go (yes l) = w.attributes (get_or g.counts n no_counts) (get_d_in g.counts n no_counts l)
    go (no l) = rw (get_or-eq_default g.counts no_counts {n = n} (omega arith)) (omega arith)

-- ---- what the values of a node need of its production: refusals 7 to 9

pub record Evaluable (g : Grammar) (p : Production) : Type 0 where
  pub targets : (r : Rule Occurrence) → In r p.rules → Output g p r.target
  pub distinct : Distinct p.rules
  pub every : (o : Occurrence) → Output g p o → (r : Rule Occurrence) × In r p.rules × (r.target ≡ o)
  pub operands : (r : Rule Occurrence) → In r p.rules → Operands (Operand g p r.target.position) r.function
  pub reads : (c : Condition Occurrence) → In c p.conditions → Reads (Input g p) c

pub evaluable : {g : Grammar} {p : Production} → WellFormedProduction g p → Evaluable g p
evaluable w = record { targets = w.targets; distinct = w.distinct; every = w.every; operands = w.operands; reads = w.reads }

pub evaluable_at : (g : Grammar) → WellFormed g → (p : ℕ) → p < length g.productions → Evaluable g (production_at g p)
evaluable_at g f p l = evaluable (well_formed_at g f p l)

-- nonterminal 255 has no attributes
pub whole_counts : (g : Grammar) → WellFormed g → get_or g.counts 255 no_counts ≡ no_counts
whole_counts g f = get_or-eq_default g.counts no_counts (omega (arith, f.nonterminals.1))

pub evaluable_whole : (g : Grammar) → WellFormed g → Evaluable g (whole_production g)
evaluable_whole g f = record {
  targets = λ r i. absurd i;
  distinct = tt;
  every = λ o u. absurd (none_out o.position o.attribute u);
  operands = λ r i. absurd i;
  reads = λ c i. absurd i;
}
  where
    none_out : (k a : ℕ) → OutputAt g (whole_production g) k a → ⊥
    none_out zero a u = omega (arith, u.0, u.1, ap (λ c. c.inherited) (whole_counts g f), ap (λ c. c.synthesized) (whole_counts g f))
    none_out (suc zero) a u = omega (arith, f.start_alone, u.1, u.2)
    none_out (suc (suc k)) a u = omega (arith, u.0)

-- ---- occurrences

-- an input at a position up to k
abbrev pub Available : Grammar → Production → ℕ → Occurrence → Type 0
Available g p k o = Input g p o × (o.position ≤ k)

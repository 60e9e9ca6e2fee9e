-- The states that the code makes, and 33 and 40 by a state alone.
use Rattle.std.specs.Prelude.{ℕ, ◌≡◌, Bool, true, false, ◌&&◌, eqb}
use Rattle.std.proofs.Common.{sym, ap, ◌∙◌, eq-eqb, ne_eqb}
use Rattle.meaning_inner.specs.Inner.{begins_at}
use Rattle.meaning.specs.Calls as Calls
use Rattle.meaning.specs.Calls.{Gate, admitted, turned_back, gate}
use Rattle.records.specs.declared.Status.{Status}
use Rattle.records.specs.declared.Status.TheVariants.{Running, Closed}
use Rattle.records.specs.declared.Kind.{Kind}
use Rattle.records.specs.declared.Kind.TheVariants.{Outer, Inner}
use Rattle.records.specs.declared.State.{State}
use Rattle.records.specs.declared.Answer.{Answer}
use Rattle.records.specs.declared.Handed.{Handed}
use Rattle.records.specs.Records.{kind_is}

-- ---- states

-- an outer run that goes on
abbrev pub running_at : ℕ → ℕ → ℕ → ℕ → State
running_at tokens moves registers places = record { status = Running; kind = Outer; tokens = tokens; moves = moves; registers = registers; places = places }

abbrev pub closed_at_zero : State
closed_at_zero = record { status = Closed; kind = Outer; tokens = 0; moves = 0; registers = 0; places = 0 }

abbrev pub with_status : Status → State → State
with_status t s = record { status = t; kind = s.kind; tokens = s.tokens; moves = s.moves; registers = s.registers; places = s.places }

abbrev pub with_kind : Kind → State → State
with_kind k s = record { status = s.status; kind = k; tokens = s.tokens; moves = s.moves; registers = s.registers; places = s.places }

-- ---- 33 and 40

-- what a record is turned back for before its stacks are looked at; k is the number for an inner one
abbrev pub gate_of : ℕ → Calls.Record → Gate
gate_of k r = gate k r.status r.kind

-- 0 for none
abbrev pub gate_number : Gate → ℕ
gate_number admitted = 0
gate_number (turned_back n) = n

abbrev pub is_admitted : Gate → Bool
is_admitted admitted = true
is_admitted (turned_back n) = false

-- ---- what a call hands back that makes no move

abbrev pub brought_back : State → Answer → Handed
brought_back s a = record { state = s; answer = a }

abbrev pub not_opened : Answer → Handed
not_opened a = record { state = closed_at_zero; answer = a }

-- ---- the test of the heights where an inner run begins

module _ (d : Kind) (h p a b : ℕ) (e : d ≡ Inner a b) where
  begins_by : {x : Bool} → eqb h a ≡ x → x && eqb p b ≡ begins_at (kind_is d) h p
  begins_by q = sym (ap (λ z. begins_at (kind_is z) h p) e ∙ ap (λ x. x && eqb p b) q)

  pub begins_elsewhere : (h ≡ a → ⊥) → false ≡ begins_at (kind_is d) h p
  begins_elsewhere z = begins_by (ne_eqb h a z)

  pub begins_there : h ≡ a → eqb p b ≡ begins_at (kind_is d) h p
  begins_there z = begins_by (eq-eqb h a z)

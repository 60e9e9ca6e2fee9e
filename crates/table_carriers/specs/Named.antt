-- The tag 6 fields as they are read: the terminals that they name, and the word that holds these.
use Rattle.std.specs.Prelude.{ℕ, ◌+◌, ◌≤◌, ◌<◌, ◌≡◌, List, [], ◌∷◌, Result, Ok, Err, reverse, length}
use Rattle.meaning.specs.Grammar.{Counts}
use Rattle.meaning.specs.Table.{byte, Header, malformed}
use Rattle.refusals.specs.Numbers.{fault_number}
use Rattle.outline.specs.Outline.{Carries}
use Rattle.table_fields.specs.Reads.{state_of}
use Rattle.table_fields.specs.Field.{rest, judged}
use Rattle.table_fields.specs.Judge.{least_after}
use Rattle.table_carriers.specs.declared.Carried.{Carried}
use Rattle.table_carriers.specs.declared.RefusedCarrier.{RefusedCarrier}

-- a tag 6 field judged, where the numbers from `least` on are above the one before: its number
pub record CarrierJudged (t : List ℕ) (at terminals least number : ℕ) : Type 0 where
  pub read :
      (h : Header) (cs : List Counts) (os ws : List ℕ) → h.terminals ≡ terminals → h.nonterminals ≤ length cs → least_after ws ≡ least
      → rest t (state_of h cs os ws [] 0 0) at ≡ judged number at (rest t (state_of h cs os (byte t (at + 3) ∷ ws) [] 0 0) (at + 4))
  pub long : number ≡ 0 → at + 4 ≤ length t
  pub known : number ≡ 0 → byte t (at + 3) < terminals

-- no tag 6 field stands at an offset
abbrev pub NoCarrier : List ℕ → ℕ → Type 0
NoCarrier t at = at < length t → byte t at ≡ 6 → ⊥

-- all tag 6 fields from an offset on read, with the terminals that they name, the latest first
pub record CarriersDone (t : List ℕ) (from terminals : ℕ) (c : Carried) : Type 0 where
  pub list : List ℕ
  pub read :
      (h : Header) (cs : List Counts) (os : List ℕ) → h.terminals ≡ terminals → h.nonterminals ≤ length cs
      → rest t (state_of h cs os [] [] 0 0) from ≡ rest t (state_of h cs os list [] 0 0) c.at
  pub held : Carries c.carrying.0 (reverse list)
  pub inside : c.at ≤ length t
  pub other : NoCarrier t c.at

-- one of them refused, with the terminals that those before it name, the latest first
pub record CarrierRefused (t : List ℕ) (from terminals : ℕ) (r : RefusedCarrier) : Type 0 where
  pub list : List ℕ
  pub reached :
      (h : Header) (cs : List Counts) (os : List ℕ) → h.terminals ≡ terminals → h.nonterminals ≤ length cs
      → rest t (state_of h cs os [] [] 0 0) from ≡ rest t (state_of h cs os list [] 0 0) r.at
  pub read :
      (h : Header) (cs : List Counts) (os : List ℕ) → h.terminals ≡ terminals → h.nonterminals ≤ length cs
      → rest t (state_of h cs os [] [] 0 0) from ≡ malformed (fault_number r.fault) r.at
  pub held : Carries r.carrying.0 (reverse list)
  pub inside : r.at ≤ length t

abbrev pub CarriersRead : List ℕ → ℕ → ℕ → Result Carried RefusedCarrier → Type 0
CarriersRead t from terminals (Ok c) = CarriersDone t from terminals c
CarriersRead t from terminals (Err r) = CarrierRefused t from terminals r

-- Configurations that correspond: the same places, registers and counts, and instructions that do the same.
use Rattle.std.specs.Prelude.{ℕ, zero, suc, ◌+◌, ◌≡◌, refl, Bool, true, false, ◌&&◌, cond, List, [], ◌∷◌, length, drop, eqb, ℤ}
use Rattle.std.proofs.Common.{ap, ap₂, subst}
use Rattle.meaning.specs.Base.{all, is_empty}
use Rattle.meaning.specs.Grammar.{Symbol, Rule, Condition, whole}
use Rattle.meaning.specs.Value.{apply, holds, in_range}
use Rattle.meaning.specs.Scheme.{Instruction, add, evaluate, expect, test, remove}
use Rattle.meaning.specs.Machine.{Coming, comes, ends, Frame, Config, Outcome, moved, blocked, Settled, stopped, failed, read_register, write_all, parent_onward, needs_look, waits, is_finished, is_done, expects, pending_test}
use Rattle.meaning.specs.Calls.{from_expect}
use Rattle.meaning.specs.Part.{frame, config}

-- ---- instructions

-- all in range or not, and the same registers afterwards
pub record SameEffect (rs qs : List (Rule ℕ)) : Type 0 where
  pub ranged : (old : List ℤ) → all (λ r. in_range (apply (read_register old) r.function)) rs ≡ all (λ r. in_range (apply (read_register old) r.function)) qs
  pub written : (old : List ℤ) → write_all rs old old ≡ write_all qs old old

abbrev pub SameTruth : List (Condition ℕ) → List (Condition ℕ) → Type 0
SameTruth cs ds = (old : List ℤ) → all (holds (read_register old)) cs ≡ all (holds (read_register old)) ds

pub data Alike : Instruction → Instruction → Type 0 where
  adds : (n : ℕ) → Alike (add n) (add n)
  evaluates : {rs qs : List (Rule ℕ)} → SameEffect rs qs → Alike (evaluate rs) (evaluate qs)
  awaits : (x : Symbol) → Alike (expect x) (expect x)
  tests : {cs ds : List (Condition ℕ)} → SameTruth cs ds → Alike (test cs) (test ds)
  removes : (n : ℕ) → Alike (remove n) (remove n)

pub data AlikeAll : List Instruction → List Instruction → Type 0 where
  ended : AlikeAll [] []
  followed : {i j : Instruction} {is js : List Instruction} → Alike i j → AlikeAll is js → AlikeAll (i ∷ is) (j ∷ js)

pub data AlikeFrames : List Frame → List Frame → Type 0 where
  bottom : AlikeFrames [] []
  on : (p : ℕ) {is js : List Instruction} {fs hs : List Frame} → AlikeAll is js → AlikeFrames fs hs → AlikeFrames (frame p is ∷ fs) (frame p js ∷ hs)

pub data AlikeConfig : Config → Config → Type 0 where
  alike : {fs hs : List Frame} (rs : List ℤ) (tokens moves : ℕ) → AlikeFrames fs hs → AlikeConfig (config fs rs tokens moves) (config hs rs tokens moves)

pub data AlikeOutcome : Outcome → Outcome → Type 0 where
  moves : {c d : Config} → AlikeConfig c d → AlikeOutcome (moved c) (moved d)
  blocks : (k : ℕ) → AlikeOutcome (blocked k) (blocked k)

pub data AlikeSettled : Settled → Settled → Type 0 where
  stops : {c d : Config} → AlikeConfig c d → AlikeSettled (stopped c) (stopped d)
  fails : {c d : Config} (k : ℕ) → AlikeConfig c d → AlikeSettled (failed c k) (failed d k)

pub alike_by : {fs hs : List Frame} (rs qs : List ℤ) (t m : ℕ) → rs ≡ qs → AlikeFrames fs hs → AlikeConfig (config fs rs t m) (config hs qs t m)
alike_by {fs} {hs} rs qs t m e a = subst (λ z. AlikeConfig (config fs rs t m) (config hs z t m)) e (alike rs t m a)

pub choose_alike : (b : Bool) {o n o' n' : Outcome} → AlikeOutcome o o' → AlikeOutcome n n' → AlikeOutcome (cond b o n) (cond b o' n')
choose_alike true x y = x
choose_alike false x y = y

pub choose_by : (a b : Bool) → a ≡ b → {o n o' n' : Outcome} → AlikeOutcome o o' → AlikeOutcome n n' → AlikeOutcome (cond a o n) (cond b o' n')
choose_by a b e {o} {n} {o'} {n'} x y = subst (λ z. AlikeOutcome (cond a o n) (cond z o' n')) e (choose_alike a x y)

-- ---- what corresponding lists share

pub alike_empty : {is js : List Instruction} → AlikeAll is js → is_empty is ≡ is_empty js
alike_empty ended = refl
alike_empty (followed a as') = refl

pub alike_drop : {is js : List Instruction} → AlikeAll is js → AlikeAll (drop 1 is) (drop 1 js)
alike_drop ended = ended
alike_drop (followed a as') = as'

pub alike_needs : {is js : List Instruction} → AlikeAll is js → needs_look is ≡ needs_look js
alike_needs ended = refl
alike_needs (followed (adds n) as') = refl
alike_needs (followed (evaluates s) as') = refl
alike_needs (followed (awaits x) as') = refl
alike_needs (followed (tests s) as') = refl
alike_needs (followed (removes n) as') = refl

pub alike_expects : {is js : List Instruction} → AlikeAll is js → expects is ≡ expects js
alike_expects ended = refl
alike_expects (followed (adds n) as') = ap (λ k. 0 + k) (alike_expects as')
alike_expects (followed (evaluates s) as') = ap (λ k. 0 + k) (alike_expects as')
alike_expects (followed (awaits x) as') = ap (λ k. 1 + k) (alike_expects as')
alike_expects (followed (tests s) as') = ap (λ k. 0 + k) (alike_expects as')
alike_expects (followed (removes n) as') = ap (λ k. 0 + k) (alike_expects as')

pub alike_pending : {is js : List Instruction} → AlikeAll is js → pending_test is ≡ pending_test js
alike_pending ended = refl
alike_pending (followed (adds n) as') = refl
alike_pending (followed (evaluates s) as') = refl
alike_pending (followed (awaits x) as') = refl
alike_pending (followed (tests s) as') = refl
alike_pending (followed (removes n) as') = refl

pub alike_from : {is js : List Instruction} → AlikeAll is js → (k : ℕ) → AlikeAll (from_expect is k) (from_expect js k)
alike_from ended k = ended
alike_from (followed (adds n) as') k = alike_from as' k
alike_from (followed (evaluates s) as') k = alike_from as' k
alike_from (followed (awaits x) as') zero = followed (awaits x) as'
alike_from (followed (awaits x) as') (suc k) = alike_from as' k
alike_from (followed (tests s) as') k = alike_from as' k
alike_from (followed (removes n) as') k = alike_from as' k

pub alike_height : {fs hs : List Frame} → AlikeFrames fs hs → length fs ≡ length hs
alike_height bottom = refl
alike_height (on p a fs) = ap suc (alike_height fs)

pub alike_parent : {fs hs : List Frame} → AlikeFrames fs hs → AlikeFrames (parent_onward fs) (parent_onward hs)
alike_parent bottom = bottom
alike_parent (on p a fs) = on p (alike_drop a) fs

alike_waits : {fs hs : List Frame} → AlikeFrames fs hs → waits fs ≡ waits hs
alike_waits bottom = refl
alike_waits (on p a fs) = alike_needs a

alike_finished : {c d : Config} → AlikeConfig c d → is_finished c ≡ is_finished d
alike_finished (alike rs t m bottom) = refl
alike_finished (alike rs t m (on p a fs)) = ap (λ b. eqb p whole && b) (alike_empty a)

alike_done : (l : Coming) (n : ℕ) {c d : Config} → AlikeConfig c d → is_done l n c ≡ is_done l n d
alike_done (comes u) n (alike rs t m fs) = refl
alike_done ends n e = alike_finished e

-- whether to stop
pub alike_stop : (l : Coming) (n : ℕ) {c d : Config} → AlikeConfig c d → waits c.frames && is_done l n c ≡ waits d.frames && is_done l n d
alike_stop l n {c} {d} e = ap₂ ◌&&◌ (go e) (alike_done l n e)
  where
    go : {c d : Config} → AlikeConfig c d → waits c.frames ≡ waits d.frames
    go (alike rs t m fs) = alike_waits fs

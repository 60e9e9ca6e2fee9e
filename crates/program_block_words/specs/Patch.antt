-- Words written into an area one after the other, from an address on.
use Rattle.std.specs.Prelude.{ℕ, zero, suc, ◌+◌, ◌≤◌, ◌<◌, ◌≡◌, refl, List, [], ◌∷◌, ◌++◌, length, drop, set, get_or}
use Rattle.std.proofs.Common.{arith, sym, ap, ◌∙◌, length-append, length-set, get_or-set_same, get_or-set_other}
use Rattle.std.proofs.lemmas.List.Edits.{sets, sets-eq}
use Rattle.std.proofs.Math.Seq.{length-sets}
use Rattle.std.proofs.lemmas.List.{set_comm}
use Rattle.meaning.specs.PublicCalls.{written}

unfoldable pub patch : List ℕ → ℕ → List ℕ → List ℕ
patch area a ws = sets area a ws

pub patch_none : (area : List ℕ) (a : ℕ) → patch area a [] ≡ area
unfolding patch
patch_none area a = refl

pub patch_length : (area : List ℕ) (a : ℕ) (ws : List ℕ) → length (patch area a ws) ≡ length area
unfolding patch
patch_length area a ws = length-sets area a ws

pub patch_append : (area : List ℕ) (a : ℕ) (xs ys : List ℕ) → patch area a (xs ++ ys) ≡ patch (patch area a xs) (a + length xs) ys
unfolding patch
patch_append area a [] ys = ap (λ b. sets area b ys) (omega arith)
patch_append area a (x ∷ xs) ys = patch_append (set area a x) (suc a) xs ys ∙ ap (λ b. sets (sets (set area a x) (suc a) xs) b ys) (omega arith)

-- an area into which all of the program was written
pub patch_written : (area ws : List ℕ) → length ws ≤ length area → patch area 0 ws ≡ written ws area
unfolding patch
patch_written area ws l =
    let e : 0 + length ws ≡ length ws = omega arith in
    sets-eq ws area 0 (omega arith) ∙ ap (λ b. ws ++ drop b area) e

-- ---- word by word

pub patch_before : (area : List ℕ) (a : ℕ) (ws : List ℕ) (i : ℕ) → i < a → get_or (patch area a ws) i 0 ≡ get_or area i 0
unfolding patch
patch_before area a [] i l = refl
patch_before area a (w ∷ ws) i l = patch_before (set area a w) (suc a) ws i (omega arith) ∙ get_or-set_other area a i w 0 (λ e. omega arith)

pub patch_behind : (area : List ℕ) (a : ℕ) (ws : List ℕ) (i : ℕ) → a + length ws ≤ i → get_or (patch area a ws) i 0 ≡ get_or area i 0
unfolding patch
patch_behind area a [] i l = refl
patch_behind area a (w ∷ ws) i l = patch_behind (set area a w) (suc a) ws i (omega arith) ∙ get_or-set_other area a i w 0 (λ e. omega arith)

pub patch_inside : (area : List ℕ) (a : ℕ) (ws : List ℕ) (i : ℕ) → a + length ws ≤ length area → i < length ws → get_or (patch area a ws) (a + i) 0 ≡ get_or ws i 0
unfolding patch
patch_inside area a [] i l m = absurd (omega arith)
patch_inside area a (w ∷ ws) zero l m =
    ap (λ b. get_or (sets (set area a w) (suc a) ws) b 0) (omega arith)
    ∙ (patch_before (set area a w) (suc a) ws a (omega arith) ∙ get_or-set_same area a w 0 (omega arith))
patch_inside area a (w ∷ ws) (suc i) l m =
    ap (λ b. get_or (sets (set area a w) (suc a) ws) b 0) (omega arith)
    ∙ patch_inside (set area a w) (suc a) ws i (omega (arith, length-set area a w)) (omega arith)

-- ---- two places that do not touch each other

patch_set : (area : List ℕ) (a : ℕ) (ws : List ℕ) (i w : ℕ) → i < a → patch (set area i w) a ws ≡ set (patch area a ws) i w
unfolding patch
patch_set area a [] i w l = refl
patch_set area a (v ∷ ws) i w l = ap (λ m. sets m (suc a) ws) (set_comm area i a w v (λ e. omega arith)) ∙ patch_set (set area a v) (suc a) ws i w (omega arith)

pub patch_swap : (area : List ℕ) (a : ℕ) (xs : List ℕ) (b : ℕ) (ys : List ℕ) → a + length xs ≤ b → patch (patch area a xs) b ys ≡ patch (patch area b ys) a xs
unfolding patch
patch_swap area a [] b ys l = refl
patch_swap area a (x ∷ xs) b ys l = patch_swap (set area a x) (suc a) xs b ys (omega arith) ∙ ap (λ m. sets m (suc a) xs) (patch_set area b ys a x (omega arith))

-- ---- what a writing function leaves: the area, and the address behind what it wrote

pub record Wrote (old new : List ℕ) (a next : ℕ) (ws : List ℕ) : Type 0 where
  pub memory : new ≡ patch old a ws
  pub address : next ≡ a + length ws

pub wrote_none : (area : List ℕ) (a : ℕ) → Wrote area area a a []
wrote_none area a = record { memory = sym (patch_none area a); address = omega arith }

pub wrote_last : (area : List ℕ) (a w : ℕ) {next : ℕ} → next ≡ a + 1 → Wrote area (set area a w) a next (w ∷ [])
unfolding patch
wrote_last area a w e = record { memory = refl; address = e }

pub wrote_one : (area : List ℕ) (a w : ℕ) → Wrote area (set area a w) a (a + 1) (w ∷ [])
wrote_one area a w = wrote_last area a w refl

pub wrote_as : {old new : List ℕ} {a next : ℕ} {xs ys : List ℕ} → xs ≡ ys → Wrote old new a next xs → Wrote old new a next ys
wrote_as e w = rw e at w

pub wrote_then : {old mid new : List ℕ} {a b c : ℕ} {xs ys : List ℕ} → Wrote old mid a b xs → Wrote mid new b c ys → Wrote old new a c (xs ++ ys)
wrote_then {old} {mid} {new} {a} {b} {c} {xs} {ys} v w =
    record {
      memory = w.memory ∙ (ap (λ m. patch m b ys) v.memory ∙ (ap (λ d. patch (patch old a xs) d ys) v.address ∙ sym (patch_append old a xs ys)));
      address = omega (arith, v.address, w.address, length-append xs ys);
    }

-- one word after the other: each at the address behind the one before, and the last
pub wrote_cons : {old new : List ℕ} {a b next w : ℕ} {ws : List ℕ} → b ≡ a + 1 → Wrote (set old a w) new b next ws → Wrote old new a next (w ∷ ws)
wrote_cons {old} {new} {a} {b} {next} {w} e v = wrote_then (wrote_last old a w e) v

-- the words behind are written first
pub wrote_ahead : {old mid new : List ℕ} {a b c : ℕ} {xs ys : List ℕ} → Wrote old mid b c ys → Wrote mid new a b xs → Wrote old new a c (xs ++ ys)
wrote_ahead {old} {mid} {new} {a} {b} {c} {xs} {ys} w v =
    wrote_then
    (record { memory = refl; address = v.address })
    (record { memory = v.memory ∙ (ap (λ m. patch m a xs) w.memory ∙ sym (patch_swap old a xs b ys (omega (arith, v.address)))); address = w.address })

pub wrote_length : {old new : List ℕ} {a next : ℕ} {ws : List ℕ} → Wrote old new a next ws → length new ≡ length old
wrote_length {old} {new} {a} {next} {ws} w = ap length w.memory ∙ patch_length old a ws

-- ---- a loop that writes: to write `all` into the old area at a is to write the rest into the new one at b

pub record Onward (old : List ℕ) (a : ℕ) (all new : List ℕ) (b : ℕ) (rest : List ℕ) : Type 0 where
  pub memory : patch old a all ≡ patch new b rest
  pub address : a + length all ≡ b + length rest
  pub size : length new ≡ length old

pub onward_start : (area : List ℕ) (a : ℕ) (all : List ℕ) → Onward area a all area a all
onward_start area a all = record { memory = refl; address = refl; size = refl }

pub onward_as : {old : List ℕ} {a : ℕ} {all new : List ℕ} {b : ℕ} {rest other : List ℕ} → rest ≡ other → Onward old a all new b rest → Onward old a all new b other
onward_as e o = rw e at o

pub onward_then : {old : List ℕ} {a : ℕ} {all mid : List ℕ} {b : ℕ} {ws rest new : List ℕ} {c : ℕ} → Onward old a all mid b (ws ++ rest) → Wrote mid new b c ws → Onward old a all new c rest
onward_then {old} {a} {all} {mid} {b} {ws} {rest} {new} {c} o w =
    record {
      memory = o.memory ∙ (patch_append mid b ws rest ∙ (ap (λ m. patch m (b + length ws) rest) (sym w.memory) ∙ ap (λ d. patch new d rest) (sym w.address)));
      address = omega (arith, o.address, w.address, length-append ws rest);
      size = wrote_length w ∙ o.size;
    }

pub onward_end : {old : List ℕ} {a : ℕ} {all new : List ℕ} {b : ℕ} → Onward old a all new b [] → Wrote old new a b all
onward_end {old} {a} {all} {new} {b} o = record { memory = sym (o.memory ∙ patch_none new b); address = omega (arith, o.address) }

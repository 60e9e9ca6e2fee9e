use Rattle.std.proofs.Common.{◌≡◌, ℕ, ◌+◌, ◌<◌, List, [], ◌∷◌, ◌++◌, length, get_or, take, set, sym, ap, ◌∙◌, arith, add-one, take-suc, take_all, refl}
use Rattle.std.proofs.Math.Seq.{length-take-le}
use Rattle.theory_sheet.specs.Overlay.{overlay, overlay_none, overlay_append}
use Rattle.sheet.proofs.tree.written.put_bytes.Goals as goal

-- one more byte
more : (bs mem m : List ℕ) (at i b : ℕ) → i < length bs → b ≡ get_or bs i 0 → m ≡ overlay at (take i bs) mem → set m (at + i) b ≡ overlay at (take (i + 1) bs) mem
unfolding overlay
more bs mem m at i b l e q =
    let t : take (i + 1) bs ≡ take i bs ++ (get_or bs i 0 ∷ []) = rw (add-one i) (take-suc bs i 0 l) in
    let n : length (take i bs) ≡ i = length-take-le i bs (omega arith) in
    (λ j. set (q j) (at + i) (e j))
    ∙ (ap (λ k. set (overlay at (take i bs) mem) (at + k) (get_or bs i 0)) (sym n)
    ∙ (sym (overlay_append (take i bs) (get_or bs i 0 ∷ []) at mem) ∙ ap (λ xs. overlay at xs mem) (sym t)))

pub loop-i-init : goal.loop-i-init
loop-i-init c = sym (overlay_none _ _)

pub loop-i-preserved : goal.loop-i-preserved
loop-i-preserved c = rw c.put.ensures (more c.args.bytes.now c.args.sheet.now c.loop-i.sheet c.args.at c.loop-i.i _ (omega arith) refl c.loop-i.invariant)

pub returns : goal.returns
returns c =
    let e : take c.loop-i.i c.args.bytes.now ≡ c.args.bytes.now = take_all c.loop-i.i c.args.bytes.now (omega arith) in
    c.loop-i.invariant ∙ ap (λ xs. overlay c.args.at xs c.args.sheet.now) e

use Rattle.std.proofs.Common.{arith, sym, ap, length-drop, ◌∙◌, ◌-◌, ◌≡◌, length, take, drop, replicate}
use Rattle.std.proofs.lemmas.List.{length-take-le, length-replicate}
use Rattle.program_zeros.proofs.Patching.{patched}
use Rattle.program_zeros.proofs.clear.Goals as goal

pub returns : goal.returns
returns c =
    let a = c.args in
    let n = a.to - a.from in
    let long : length (take n (drop a.from a.area.now)) ≡ n = length-take-le n (drop a.from a.area.now) (omega (arith, length-drop a.from a.area.now)) in
    let filled : c.fill.new.self ≡ replicate n 0 = c.fill.ensures.after (λ y e. e) ∙ ap (λ k. replicate k 0) long in
    patched a.area.now a.from n c.fill.new.self (replicate n 0) filled (sym (length-replicate n 0)) (omega arith)

use Rattle.std.proofs.Common.{◌≡◌, ℕ, ◌/◌, ◌%◌, ap, ◌∙◌, ◌∷◌, ◌++◌, refl, arith, ℤ, of_z, to_z-of_z}
use Rattle.std.proofs.Math.IntN.{pos, negsuc}
use Rattle.std.specs.Int.{w64, to_be_bytes, byte_at}
use Rattle.meaning.specs.Layout.{four_bytes}
use Rattle.meaning_sheet.specs.Sheet.{complement}
use Rattle.theory_sheet.specs.Overlay.{overlay}
use Rattle.sheet.proofs.tree.written.put_eight.Goals as goal

bits : (z : ℤ) → of_z w64 z ≡ complement z
bits (pos n) = refl
bits (negsuc n) = omega arith

-- its bytes are those of its two halves
halves : (n : ℕ) → to_be_bytes w64 n ≡ four_bytes (n / 4294967296) ++ four_bytes n
halves n =
    let a : byte_at 7 n ≡ n / 4294967296 / 16777216 % 256 = omega arith in
    let b : byte_at 6 n ≡ n / 4294967296 / 65536 % 256 = omega arith in
    let c : byte_at 5 n ≡ n / 4294967296 / 256 % 256 = omega arith in
    (λ i. a i ∷ b i ∷ c i ∷ (byte_at 4 n ∷ four_bytes n))

pub returns : goal.returns
returns c =
    c.put_bytes.ensures
    ∙ ap (λ bs. overlay c.args.at bs c.args.sheet.now) (c.to_be_bytes.ensures ∙ (ap (λ z. to_be_bytes w64 (of_z w64 z)) (to_z-of_z c.ranges.value) ∙ (ap (to_be_bytes w64) (bits c.args.value) ∙ halves (complement c.args.value))))

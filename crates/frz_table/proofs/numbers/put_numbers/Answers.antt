use Rattle.std.proofs.Common.{◌≡◌, refl, sym, ap, ◌∙◌, ℕ, ◌+◌, ◌*◌, ◌≤◌, length, take, List, [], ◌∷◌, ◌++◌, get_or, arith, add-one}
use Rattle.std.specs.Int.{w32, to_le_bytes}
use Rattle.std.proofs.Math.Seq.{take-suc}
use Rattle.std.proofs.lemmas.Slice.{take-put_mid}
use Rattle.frz_table.specs.Numbers.{number_bytes}
use Rattle.frz_table.proofs.NumberLists.{number_bytes-append, number_bytes-one}
use Rattle.frz_table.proofs.numbers.put_numbers.Goals as goal

pub loop-i-init : goal.loop-i-init
unfolding number_bytes
loop-i-init c = refl

pub loop-i-preserved : goal.loop-i-preserved
loop-i-preserved c =
    let xs : List ℕ = c.args.numbers.now in
    let i : ℕ = c.loop-i.i in
    let within : 4 * i ≤ length c.loop-i.into = omega arith in
    let wide : 4 * (i + 1) ≡ 4 * i + length c.copy_from_slice.new.self = omega
    (arith, c.copy_from_slice.ensures.len) in
    let wrote : c.copy_from_slice.new.self ≡ to_le_bytes w32 (get_or xs i 0) =
    c.copy_from_slice.ensures.after ∙ c.to_le_bytes.ensures in
    let read : take (i + 1) xs ≡ take i xs ++ (get_or xs i 0 ∷ []) = ap (λ (k : ℕ). take k xs)
    (add-one i) ∙ take-suc xs i 0 (omega arith) in
    take-put_mid (4 * i) _ c.loop-i.into c.copy_from_slice.new.self (4 * (i + 1)) wide within
    ∙ ap (λ (l : List ℕ). l ++ c.copy_from_slice.new.self) c.loop-i.invariant
    ∙ ap (λ (l : List ℕ). number_bytes (take i xs) ++ l)
    (wrote ∙ sym (number_bytes-one (get_or xs i 0)))
    ∙ sym (number_bytes-append (take i xs) (get_or xs i 0 ∷ []))
    ∙ sym (ap number_bytes read)

-- The input of a session as that of an arena: each reply is a legal move, and leaves fewer lines.
use Rattle.std.proofs.Common.{◌≡◌, ◌<◌, refl, sym, ap, map, ◌∙◌, ℕ, zero, suc, inl, inr, List, [], ◌∷◌, Option, Some, None, nat_lt, length, arith}
use Rattle.std.specs.Prelude.{slice_get}
use Rattle.std.specs.Str.{bytes_eq}
use Rattle.std.proofs.lemmas.List.Quantifiers.{position-Some}
use Rattle.std.proofs.lemmas.Bool.{cases_Bool}
use Rattle.frz_board.specs.Moving.{Step}
use Rattle.frz_board.specs.Texts.{text_of}
use Rattle.frz_sets.specs.declared.exit.Value.{Value}
use Rattle.frz_arena.specs.declared.arm.Arm.{Arm}
use Rattle.std.proofs.lemmas.Option.{slice_get-map}
use Rattle.frz_arena.specs.Arena.{Arena}
use Rattle.frz_arena.specs.Counted.{after, counted}
use Rattle.frz_arena.specs.Names.{named}
use Rattle.frz_arena.specs.Inputs.{Answer, Reply, Stop, IsInput}
use Rattle.frz_words.specs.Words.{words}
use Rattle.frz_ways.specs.declared.session_end.TheConstants.{MOST_LENGTH}
use Rattle.frz_ways.specs.Reading.{Input, Halt, line_length, first_line, behind_line, only_of, place_by, place_said, refuse_one, reply_or, reads}

place_has_arm : (arms : List (Arm Step ℕ Value)) (place : ℕ) → place < length arms
    → (a : Arm Step ℕ Value) × (slice_get arms place ≡ Some a)
place_has_arm [] place l = absurd (omega arith)
place_has_arm (a ∷ arms) zero l = (a, refl)
place_has_arm (a ∷ arms) (suc place) l = place_has_arm arms place (omega arith)

place_there : (arms : List (Arm Step ℕ Value)) (word : Option (List ℕ)) (place : ℕ)
    → place_by arms word ≡ Some place → (a : Arm Step ℕ Value) × (slice_get arms place ≡ Some a)
place_there arms None place e = absurd (cc)
place_there [] (Some word) place e = absurd (cc)
place_there (a ∷ arms) (Some word) place e =
    place_has_arm (a ∷ arms) place
    (position-Some (λ z. bytes_eq word (text_of z.mv)) (a ∷ arms) place a e).0

-- what an answer's reply is
abbrev IsReply : (arms : List (Arm Step ℕ Value)) → (more : ℕ) → Answer Input Halt → Type 0
IsReply arms more answer =
    (refused place : ℕ) (left : Input) → answer ≡ Reply refused place left →
    ((a : Arm Step ℕ Value) × (slice_get arms place ≡ Some a)) × (left.more < more)

refused_is_reply : (arms : List (Arm Step ℕ Value)) (more : ℕ) (next : Answer Input Halt)
    → IsReply arms more next → IsReply arms (suc more) (refuse_one next)
refused_is_reply arms more (Reply n p l) h = λ refused place left e.
    let at_it : p ≡ place = cc in
    let same : l ≡ left = cc in
    let r = h n place left (ap (λ k. Reply n k l) at_it ∙ ap (Reply n place) same) in
    (r.0, (let k = r.1 in omega (arith, k)))
refused_is_reply arms more (Stop halt l) h = λ refused place left e. absurd (cc)

line_is_reply : (arms : List (Arm Step ℕ Value)) (more : ℕ) (said : Option ℕ)
    → ((place : ℕ) → said ≡ Some place → (a : Arm Step ℕ Value) × (slice_get arms place ≡ Some a))
    → (rest : List ℕ) (next : Answer Input Halt) → IsReply arms more next
    → IsReply arms (suc more) (reply_or said (record { left = rest; more = more }) next)
line_is_reply arms more (Some p) there rest next h = λ refused place left e.
    let at_it : p ≡ place = cc in
    let same : record { left = rest; more = more } ≡ left = cc in
    let few : left.more ≡ more = ap (λ (z : Input). z.more) (sym same) in
    (there place (ap Some at_it), omega (arith, few))
line_is_reply arms more None there rest next h = refused_is_reply arms more next h

read_is_reply : (arms : List (Arm Step ℕ Value)) (more : ℕ) (left : List ℕ)
    → IsReply arms more (reads arms more left)
read_is_reply arms zero left = λ refused place rest e. absurd (cc)
read_is_reply arms (suc more) [] = λ refused place rest e. absurd (cc)
read_is_reply arms (suc more) (b ∷ bs) =
    elim (cases_Bool (nat_lt MOST_LENGTH (line_length (b ∷ bs)))) [
      | inl t ↦ rw t (λ refused place rest e. absurd (cc))
      | inr f ↦ rw f (line_is_reply arms more (place_said arms (first_line (b ∷ bs)))
          (λ place e. place_there arms (only_of (words (first_line (b ∷ bs)))) place e)
          (behind_line (b ∷ bs)) (reads arms more (behind_line (b ∷ bs)))
          (read_is_reply arms more (behind_line (b ∷ bs))))
    ]

counted_there : (arms : List (Arm Step ℕ Value)) (k place : ℕ) (a : Arm Step ℕ Value)
    → slice_get arms place ≡ Some a
    → (b : Arm Step (ℕ × ℕ) Value) × (slice_get (map (named (after k)) arms) place ≡ Some b)
counted_there arms k place a there =
    let turn : Arm Step ℕ Value → Arm Step (ℕ × ℕ) Value = named (after k) in
    let m = slice_get-map turn arms place in
    (turn a, rw (m, there) refl)

pub reads_input : (arena : Arena Step ℕ Value)
    → IsInput (counted arena) (λ (s : Input). s.more)
    (λ p (s : Input). reads (arena.arms p.1) s.more s.left)
reads_input arena = record {
  there = λ p mover s t refused place going e.
      (let r = (read_is_reply (arena.arms p.1) s.more s.left refused place t e).0 in
      counted_there (arena.arms p.1) (suc p.0) place r.0 r.1);
  less = λ p s t refused place e.
      (read_is_reply (arena.arms p.1) s.more s.left refused place t e).1;
}

-- The local code by the moves of a number and their codes.
use Rattle.std.proofs.Common.{◌≡◌, ℕ, List, [], ◌∷◌, map, slice_index, refl, sym, subst, get_or, ap, ◌∙◌, ◌≤◌, ◌<◌}
use Rattle.std.specs.List.{All, filter}
use Rattle.std.proofs.lemmas.List.Elements.{All-contains_itself}
use Rattle.frz_board.specs.declared.man.Colour.{Colour}
use Rattle.frz_board.specs.Moving.{Step}
use Rattle.frz_exits.specs.Value.{Value}
use Rattle.frz_arena.specs.declared.arm.Arm.{Arm}
use Rattle.frz_arena.specs.declared.arm.Next.{Next}
use Rattle.frz_arena.specs.declared.arm.Next.TheVariants.{Inside, Outside}
use Rattle.frz_arena.specs.declared.node.Node.{Node}
use Rattle.frz_arena.specs.Arena.{Arena}
use Rattle.frz_arena.specs.LocalCodes as words
use Rattle.frz_exits.specs.Values.{class_of, lag_of}
use Rattle.frz_graph.specs.EntryCodes.{next_code, arm_code, IsWithin}
use Rattle.frz_graph.specs.Finite.{IsFinite}
use Rattle.frz_graph.specs.FreeCodes.{free_among}
use Rattle.frz_graph.proofs.FreeCodes.{free_mapped}

-- the code of where a move leads
pub same_next : (arena : Arena Step ℕ Value) → arena.class ≡ class_of → arena.lag ≡ lag_of →
    (side : Colour) (entries : List ℕ) (x : Next ℕ Value) →
    next_code side entries x ≡ words.next_code arena side (λ k. slice_index entries k) x
same_next arena class lag side entries (Inside q) = refl
same_next arena class lag side entries (Outside v) = rw (class, lag) refl

same_codes : (arena : Arena Step ℕ Value) → arena.class ≡ class_of → arena.lag ≡ lag_of →
    (side : Colour) (entries : List ℕ) (arms : List (Arm Step ℕ Value)) →
    map (arm_code side entries) arms ≡ words.codes_of arena side (λ k. slice_index entries k) arms
same_codes arena class lag side entries [] = refl
same_codes arena class lag side entries (x ∷ xs) =
    rw (same_next arena class lag side entries x.next, same_codes arena class lag side entries xs)
    refl

pub filled : (arena : Arena Step ℕ Value) → arena.class ≡ class_of → arena.lag ≡ lag_of →
    (side : Colour) (entries : List ℕ) (i : ℕ) →
    words.node_code side (arena.node i)
    (free_among (arena.arms i) (map (arm_code side entries) (arena.arms i)))
    (map (arm_code side entries) (arena.arms i))
    ≡ words.local_code arena side (λ k. slice_index entries k) i
filled arena class lag side entries i =
    let arms = arena.arms i in
    let all = map (arm_code side entries) arms in
    ap (λ (free : List ℕ). words.node_code side (arena.node i) free all)
    (free_mapped (arm_code side entries) arms ∙ same_codes arena class lag side entries
    (filter (λ a. a.free) arms))
    ∙ ap (λ (cs : List ℕ). words.node_code side (arena.node i)
    (words.free_codes arena side (λ k. slice_index entries k) i) cs)
    (same_codes arena class lag side entries arms)

-- the same with names for what is given
pub local_code_of : (arena : Arena Step ℕ Value) (size : ℕ) → IsFinite arena size →
    (side : Colour) (entries : List ℕ) (i : ℕ) (node : Node) (arms : List (Arm Step ℕ Value))
    (codes : List ℕ) →
    node ≡ arena.node i → arms ≡ arena.arms i → codes ≡ map (arm_code side entries) arms →
    words.node_code side node (free_among arms codes) codes ≡ words.local_code arena side
    (λ k. slice_index entries k) i
local_code_of arena size finite side entries i node arms codes same_node same_arms same =
    let A = arena.arms i in
    ap (λ (z : Node). words.node_code side z (free_among arms codes) codes) same_node
    ∙ (ap (λ (z : List ℕ). words.node_code side (arena.node i) (free_among arms z) z) same
    ∙ (ap (λ (z : List (Arm Step ℕ Value)). words.node_code side (arena.node i)
    (free_among z (map (arm_code side entries) z)) (map (arm_code side entries) z)) same_arms
    ∙ filled arena finite.class finite.lag side entries i))

next_within : (size : ℕ) (x : Next ℕ Value) → ((q : ℕ) → x ≡ Inside q → q < size) →
    ((v : Value) → x ≡ Outside v → lag_of v ≤ 1000) → IsWithin size x
next_within size (Inside q) inside lags = inside q refl
next_within size (Outside v) inside lags = lags v refl

-- the moves of a number may be given codes
pub arms_within : (arena : Arena Step ℕ Value) (size : ℕ) → IsFinite arena size → (i : ℕ) →
    All (λ a. IsWithin size a.next) (arena.arms i)
arms_within arena size finite i k d l =
    let a = get_or (arena.arms i) k d in
    let among = All-contains_itself (arena.arms i) k d l in
    next_within size a.next (λ q e. (finite.inside i q a among e).0)
    (λ v e. finite.lags i v a among e)

pub given_within : (arena : Arena Step ℕ Value) (size many : ℕ) → IsFinite arena size →
    (i : ℕ) (arms : List (Arm Step ℕ Value)) → many ≡ size → arms ≡ arena.arms i →
    All (λ a. IsWithin many a.next) arms
given_within arena size many finite i arms m e =
    subst (λ (z : List (Arm Step ℕ Value)). All (λ a. IsWithin many a.next) z) (sym e)
    (subst (λ n. All (λ a. IsWithin n a.next) (arena.arms i)) (sym m)
    (arms_within arena size finite i))

-- Each way in which a number begins.
use Rattle.std.proofs.Common.{◌≡◌, ◌≢◌, ℕ, Bool, true, false, cond, ◌+◌, ◌<◌, ◌≤◌, List, [], ◌∷◌, eqb, sym, ◌∙◌, ap, refl, arith, inl, inr, get_or, set, length, subst, get_or-set_same, get_or-set_other, length-set}
use Rattle.std.proofs.lemmas.Bool.{cases_eq, cases_lt}
use Rattle.std.proofs.lemmas.List.{get_or_past}
use Rattle.frz_board.specs.Moving.{Step}
use Rattle.frz_sets.specs.declared.exit.Value.{Value}
use Rattle.frz_arena.specs.Arena.{Arena}
use Rattle.frz_retro.specs.Shape.{Shape}
use Rattle.frz_retro.specs.Tallies.{HasBegun, HasSize, Tally}
use Rattle.frz_retro.specs.Work.{ones, Queue, Sized, Begun}
use Rattle.frz_retro.specs.Beginning.{IsBegun}
use Rattle.frz_retro.specs.Notes.{IsNoteOf, entry_in, later_in}
use Rattle.std.specs.Prelude.{if◌then◌else◌, nat_le, nat_lt}
use Rattle.std.proofs.lemmas.Bool.Decides.{nat_tests}
use Rattle.std.proofs.lemmas.List.{set-get_or}
use Rattle.std.proofs.Common.{zero, suc}
use Rattle.frz_board.specs.declared.man.Colour.{Colour}
use Rattle.frz_arena.specs.declared.node.Node.TheVariants.{Going}
use Rattle.frz_retro.proofs.WorkFacts.{ones_set, read_back, queue_keeps, room_for}

-- an open number breaks
queue_breaks : {k mid : ℕ} {E Q : List ℕ} {tail : ℕ} (i : ℕ) → Queue k mid E Q tail → mid ≤ tail →
    get_or E i 0 ≡ 1 → Queue k mid (set E i 0) Q tail
queue_breaks {E = E} {Q = Q} i u m one =
    let F = set E i 0 in
    let fewer = ones_set E i 0 one (λ e. omega (arith, e)) in
    let at : get_or F i 0 ≡ 0 = read_back E i 0 (omega (arith, one)) in
    let stays : (q : ℕ) → 2 ≤ get_or E q 0
    → get_or F q 0 ≡ get_or E q 0 =
    λ q h. get_or-set_other E i q 0 0
    (λ e. let y = ap (λ (x : ℕ). get_or E x 0) e in omega (arith, y, one, h)) in
    let room = u.room in
    record {
      room = omega (arith, fewer, room);
      each = λ t l. let h = u.each t l in let s = stays (get_or Q t 0) h in omega (arith, h, s);
      old = λ t l.
          let h = u.each t (omega (arith, l, m)) in
          let s = stays (get_or Q t 0) h in
          let o = u.old t l in
          omega (arith, o, s);
      young = λ t a l.
          let h = u.each t l in
          let s = stays (get_or Q t 0) h in
          let o = u.young t a l in
          omega (arith, o, s);
      found = λ q h. elim (cases_eq q i) [
        | inl e ↦ let y = ap (λ (x : ℕ). get_or F x 0) e in absurd (omega (arith, y, at, h))
        | inr n ↦ let s = get_or-set_other E i q 0 0 n in u.found q (omega (arith, s, h))
      ];
      once = u.once;
    }

few_entries : (code : ℕ) → entry_in code < 4
few_entries code = elim (cases_lt code 4) [
  | inl low ↦
      let test : nat_lt code 4 ≡ true = grind (arith, nat_tests) in
      let is = ap (λ t. cond t code 1) test in omega (arith, is, low)
  | inr high ↦
      let test : nat_lt code 4 ≡ false = grind (arith, nat_tests) in
      let is = ap (λ t. cond t code 1) test in omega (arith, is)
]

module _ {B : Shape} {side : Colour} {E C L Q : List ℕ} {tail : ℕ} (n : ℕ)
    (b : Begun B side n E C L Q tail) (l : n < B.size) where
  pub is_one : get_or E n 0 ≡ 1
  is_one = b.rest n (omega arith) l

  pub has_room : tail < length Q
  has_room = room_for n b.queue is_one

  -- the next number has begun
  begins : (F D M R : List ℕ) (end : ℕ) → ((j : ℕ) → j ≢ n → get_or F j 0 ≡ get_or E j 0) →
      ((j : ℕ) → j ≢ n → get_or D j 0 ≡ get_or C j 0) →
      ((j : ℕ) → j ≢ n → get_or M j 0 ≡ get_or L j 0) →
      IsBegun side (B.arena.node n) (B.arena.arms n) (get_or F n 0) (get_or D n 0) (get_or M n 0) →
      get_or F n 0 < 4 → (((c : Colour) → B.arena.node n ≢ Going c) → get_or M n 0 ≡ 0) →
      Queue 0 0 F R end → Sized B.size F D M R → Begun B side (n + 1) F D M R end
  begins F D M R end f d m here few ended queue sized = record {
    begun = λ i h. elim (cases_eq i n) [
      | inl e ↦
          subst (λ j. IsBegun side (B.arena.node j) (B.arena.arms j) (get_or F j 0) (get_or D j 0)
          (get_or M j 0)) (sym e) here
      | inr x ↦
          subst (λ (a : ℕ). IsBegun side (B.arena.node i) (B.arena.arms i) a (get_or D i 0)
          (get_or M i 0)) (sym (f i x))
          (subst (λ (a : ℕ). IsBegun side (B.arena.node i) (B.arena.arms i) (get_or E i 0) a
          (get_or M i 0)) (sym (d i x))
          (subst (λ (a : ℕ). IsBegun side (B.arena.node i) (B.arena.arms i) (get_or E i 0)
          (get_or C i 0) a) (sym (m i x)) (b.begun i (omega (arith, h, x)))))
    ];
    rest = λ i h k.
        let x : i ≢ n = omega (arith, h) in
        f i x ∙ b.rest i (omega (arith, h)) k;
    ended = λ i h g. elim (cases_eq i n) [
      | inl e ↦ ap (λ j. get_or M j 0) e ∙ ended (λ c y. g c (ap B.arena.node e ∙ y))
      | inr x ↦ m i x ∙ b.ended i (omega (arith, h, x)) g
    ];
    few = λ q. elim (cases_eq q n) [
      | inl e ↦ let y = ap (λ j. get_or F j 0) e in omega (arith, y, few)
      | inr x ↦ let y = f q x in let z = b.few q in omega (arith, y, z)
    ];
    queue = queue;
    sized = sized;
  }

  at_code : (x : ℕ) → get_or (set E n x) n 0 ≡ x
  at_code x = read_back E n x (omega (arith, is_one))

  -- a number that is not open has a code of its own
  queue_begins : (entry : ℕ) → Queue 0 0 (set E n entry)
      (if nat_le 2 entry then set Q tail n else Q)
      (if nat_le 2 entry then tail + 1 else tail)
  queue_begins zero = queue_breaks n b.queue (omega arith) is_one
  queue_begins (suc zero) =
      subst (λ (F : List ℕ). Queue 0 0 F Q tail)
      (sym (ap (set E n) (sym is_one) ∙ set-get_or E n 0)) b.queue
  queue_begins (suc (suc entry)) =
      let two : nat_le 2 (suc (suc entry)) ≡ true = grind (arith, nat_tests) in
      subst (λ (t : Bool). Queue 0 0 (set E n (suc (suc entry))) (if t then set Q tail n else Q)
      (if t then tail + 1 else tail)) (sym two)
      (queue_keeps n (suc (suc entry)) b.queue (omega arith) is_one (omega arith))

  sized_begins : (entry count later : ℕ) (t : Bool) →
      Sized B.size (set E n entry) (set C n count) (set L n later) (if t then set Q tail n else Q)
  sized_begins entry count later t =
      let s = b.sized in
      record {
        codes = length-set E n entry ∙ s.codes;
        counts = length-set C n count ∙ s.counts;
        later = length-set L n later ∙ s.later;
        queue = queue_size t ∙ s.queue;
      }
    where
      queue_size : (t : Bool) → length (if t then set Q tail n else Q) ≡ length Q
      queue_size true = length-set Q tail n
      queue_size false = refl

  -- the next number begins as its note says
  pub begins_noted : (count code : ℕ) → IsNoteOf side (B.arena.node n) (B.arena.arms n) count code →
      Begun B side (n + 1) (set E n (entry_in code)) (set C n count) (set L n (later_in code))
      (if nat_le 2 (entry_in code) then set Q tail n else Q)
      (if nat_le 2 (entry_in code) then tail + 1 else tail)
  begins_noted count code h =
      let s = b.sized in
      let sc = s.counts in
      let sl = s.later in
      let e = at_code (entry_in code) in
      let d : get_or (set C n count) n 0 ≡ count = get_or-set_same C n count 0
      (omega (arith, sc, l)) in
      let m : get_or (set L n (later_in code)) n 0 ≡ later_in code =
      get_or-set_same L n (later_in code) 0 (omega (arith, sl, l)) in
      begins (set E n (entry_in code)) (set C n count) (set L n (later_in code))
      (if nat_le 2 (entry_in code) then set Q tail n else Q)
      (if nat_le 2 (entry_in code) then tail + 1 else tail)
      (λ j x. get_or-set_other E n j (entry_in code) 0 x)
      (λ j x. get_or-set_other C n j count 0 x)
      (λ j x. get_or-set_other L n j (later_in code) 0 x)
      (rw (e, d, m) h.begun)
      (let few = few_entries code in omega (arith, e, few))
      (λ g. m ∙ h.ended g) (queue_begins (entry_in code))
      (sized_begins (entry_in code) count (later_in code) (nat_le 2 (entry_in code)))

ones_le : (E : List ℕ) → ones E ≤ length E
ones_le [] = omega arith
ones_le (x ∷ E) = let h = ones_le E in let o = one_le (eqb x 1) in omega (arith, h, o)
  where
    one_le : (b : Bool) → cond b 1 0 ≤ 1
    one_le true = omega arith
    one_le false = omega arith

-- before the first number begins
pub begun_none : {B : Shape} {side : Colour} {E C L Q : List ℕ} → Sized B.size E C L Q →
    ((i : ℕ) → i < B.size → get_or E i 0 ≡ 1) → Begun B side 0 E C L Q 0
begun_none {E = E} s e =
    let le = s.codes in let lq = s.queue in
    let few : (q : ℕ) → get_or E q 0 < 2 = λ q. elim (cases_lt q (length E)) [
      | inl h ↦ let y = e q (omega (arith, h, le)) in omega (arith, y)
      | inr h ↦ let y = get_or_past E q 0 h in omega (arith, y)
    ] in
    record {
      begun = λ i h. absurd (omega (arith, h));
      rest = λ i _ h. e i h;
      ended = λ i h g. absurd (omega (arith, h));
      few = λ q. let y = few q in omega (arith, y);
      queue = record {
        room = let o = ones_le E in omega (arith, o, le, lq);
        each = λ t h. absurd (omega (arith, h));
        old = λ t h. absurd (omega (arith, h));
        young = λ t _ h. absurd (omega (arith, h));
        found = λ q h. let y = few q in absurd (omega (arith, y, h));
        once = λ _ t h _ _. absurd (omega (arith, h));
      };
      sized = s;
    }

-- a tally that was made anew
pub begun_anew : (arena : Arena Step ℕ Value) (size : ℕ) (side : Colour) (n : ℕ) (t : Tally) →
    n ≡ size → HasSize n t → ((i : ℕ) → i < n → get_or t.codes i 0 ≡ 1) → t.tail ≡ 0 →
    HasBegun arena size side 0 t
begun_anew arena size side n t e sized codes tail =
    rw tail (begun_none (rw e at sized) (λ i h. codes i (omega (arith, h, e))))

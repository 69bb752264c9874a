-- What opening gives over files, and within which calls and bytes: what the bytes of the name open
-- as, and where they may want memory.
use Rattle.std.proofs.Common.{◌≡◌, inl, inr, refl, sym, ap, subst, ◌∙◌, ℕ, ◌+◌, ◌≤◌, nat_lt, ◌==◌, min, Bool, true, false, cond, List, [], length, take, drop, Option, Some, None, Result, Ok, Err, arith, length-take-le, length-drop}
use Rattle.std.specs.Int.{w32, from_le_bytes}
use Rattle.std.specs.Option.{IsSomeAnd, option_map, unwrap_or}
use Rattle.std.specs.Str.{bytes_eq}
use Rattle.std.proofs.lemmas.Slice.Eq.{bytes_eq-Decides}
use Rattle.frz_asks.specs.Trees.{Asks, gives, ask_size, ask_bytes, with_memory, bind, bind_ok}
use Rattle.frz_asks.proofs.Lemmas.{Costs, bind_ok-assoc, cost_bytes, cost_came, cost_first, cost_if_first, cost_memory, cost_memory_first, cost_none, cost_refused, cost_size, then_ok}
use Rattle.frz_rules.specs.Text.{may_want_memory, rules_of}
use Rattle.frz_rules.specs.declared.fault.RulesFault.{RulesFault}
use Rattle.frz_sets.specs.Views.{RuleLines}
use Rattle.frz_store.specs.Files.{Files}
use Rattle.frz_table.specs.Asking.{Opened, number_of, by_length, by_magic, by_size, heading, kept_as, reading, by_head, texting, sized_as, sizing, by_rules, by_text, opening}
use Rattle.frz_table.specs.Faults.{magic_fault}
use Rattle.frz_table.specs.Layout.{due_length}
use Rattle.frz_table.specs.Memory.{TakesMemory, WantsMemory}
use Rattle.frz_table.specs.Numbers.{number_at}
use Rattle.frz_table.specs.Opening.{Contents, Format, front_of, opened, with_magic, with_length, calls_by_magic, calls_by_length, with_rules, of_size, kept_length, kept_text, kept_size, opening_calls, calls_by_rules}
use Rattle.frz_table.specs.Possible.{held_text}
use Rattle.frz_table.specs.Steps.{Refines}
use Rattle.frz_table.specs.declared.fault.TableFault.{TableFault}
use Rattle.frz_table.specs.declared.fault.TableFault.TheVariants.{Missing, Truncated, Extra, Rules, Size}
use Rattle.frz_table.specs.declared.head.Head.{Head}
use Rattle.frz_table.proofs.Tests.{at_least, both_if}

-- no more bytes than these are asked for
abbrev pub most_asked : Option (List ℕ) → ℕ
most_asked held = 16 + min 65536 (length (held_text held))

-- the magic is the one that is due
abbrev pub WantsDue : Format → List ℕ → Type 0
WantsDue format bytes = WantsMemory (format.magic (take 8 bytes)) bytes

abbrev pub after_head : Format → List ℕ → Head → Asks (Result Contents TableFault)
after_head format name head = bind_ok (by_head name head) (by_text format name)

module _ (m : Files) (format : Format) (refines : Refines format) (name bytes : List ℕ)
    (held : m name ≡ Some bytes) where
  most : ℕ
  most = most_asked (Some bytes)

  W : Type 0
  W = WantsMemory (format.magic (take 8 bytes)) bytes

  -- bytes that were read
  cost_read : {A : Type 0} {a : A} {c all b : ℕ} (at count : ℕ) (f : List ℕ → Asks A)
      → Costs m (f (take count (drop at bytes))) a (c + 1) all (b + count) most W
      → Costs m (bind (ask_bytes name at count) f) a c all b most W
  cost_read {a = a} {c = c} {all = all} {b = b} at count f h =
      cost_bytes name at count f
      (subst (λ (o : Option (List ℕ)). Costs m (f (take count (drop at (unwrap_or o [])))) a (c + 1)
      all (b + count) most W) (sym held) h)

  cost_number : {A : Type 0} {a : A} {c all b : ℕ} (at : ℕ) (f : ℕ → Asks A)
      → Costs m (f (number_at at bytes)) a (c + 1) all (b + 4) most W
      → Costs m (bind (number_of name at) f) a c all b most W
  unfolding bind ask_bytes
  cost_number at f h = cost_read at 4 (λ l. f (from_le_bytes w32 l)) h

  -- the head is right
  record IsHeaded : Type 0 where
    enough : 16 ≤ length bytes
    begins : take 8 bytes ≡ format.magic (take 8 bytes)
    short : kept_length bytes ≤ 65536
    fits : 16 + kept_length bytes ≤ length bytes

  module _ (h : IsHeaded) where
    text : List ℕ
    text = kept_text bytes

    file : ℕ
    file = length bytes

    long : length text ≡ kept_length bytes
    unfolding text
    long =
        let fits = h.fits in
        length-take-le (kept_length bytes) (drop 12 bytes) (omega (arith, fits, length-drop 12 bytes))

    within : 12 + length text ≤ most
    unfolding text most
    within = let e = long in let s = h.short in omega (arith, e, s)

    all_within : 16 + length text ≤ most
    unfolding text most
    all_within = let e = long in let s = h.short in omega (arith, e, s)

    wants : TakesMemory text → W
    unfolding text W
    wants t = record {
      head = record {
        all = refl;
        enough = h.fits;
        begins = h.begins;
        kept = refl;
        short = h.short;
      };
      text = t;
    }

    module _ (rules : RuleLines) where
      contents : Contents
      contents = record { text = text; rules = rules }

      size : ℕ
      size = format.size rules

      -- the size and the length
      last : Result (Unit {0}) TableFault → Result Contents TableFault
      last r = then_ok (λ t. Ok contents) r

      last_gives : (o : Opened) → o.file ≡ file → o.text ≡ text
          → last (sized_as o size (number_at (12 + length text) bytes)) ≡ of_size bytes contents size
      unfolding last then_ok contents size text file
      last_gives o named texts =
          let due : ℕ = due_length (kept_text bytes) (format.size rules) in
          ap (λ (f : ℕ). then_ok (λ t. Ok contents)
          (cond (number_at (12 + length text) bytes == size)
          (cond (nat_lt f (due_length o.text size)) (Err (Truncated f (due_length o.text size)))
          (cond (nat_lt (due_length o.text size) f) (Err (Extra f (due_length o.text size))) (Ok tt)))
          (Err (Size (number_at (12 + length text) bytes) size)))) named
          ∙ ap (λ (t : List ℕ). then_ok (λ t. Ok contents)
          (cond (number_at (12 + length text) bytes == size)
          (cond (nat_lt file (due_length t size)) (Err (Truncated file (due_length t size)))
          (cond (nat_lt (due_length t size) file) (Err (Extra file (due_length t size))) (Ok tt)))
          (Err (Size (number_at (12 + length text) bytes) size)))) texts
          ∙ ap (λ (n : ℕ). then_ok (λ t. Ok contents)
          (cond (number_at (12 + n) bytes == size)
          (cond (nat_lt file due) (Err (Truncated file due))
          (cond (nat_lt due file) (Err (Extra file due)) (Ok tt)))
          (Err (Size (number_at (12 + n) bytes) size)))) long
          ∙ both_if (then_ok (λ t. Ok contents)) (λ (r : Result Contents TableFault). r)
          (kept_size bytes == size) _ _ _ _
          (λ e. both_if (then_ok (λ t. Ok contents)) (λ (r : Result Contents TableFault). r)
          (nat_lt file due) _ _ _ _ (λ i. refl)
          (λ i. both_if (then_ok (λ t. Ok contents)) (λ (r : Result Contents TableFault). r)
          (nat_lt due file) _ _ _ _ (λ j. refl) (λ j. refl)))
          (λ e. refl)

      cost_last : {b : ℕ} (r : Result (Unit {0}) TableFault) → W → b ≤ most
          → Costs m (bind_ok (gives r) (λ t. with_memory (gives (Ok contents)))) (last r) 5 5 b most W
      unfolding last then_ok
      cost_last (Ok t) w few =
          cost_came t (λ t. with_memory (gives (Ok contents)))
          (cost_memory (gives (Ok contents)) w (cost_none (Ok contents) (omega arith) few))
      cost_last (Err e) w few =
          cost_refused e (λ t. with_memory (gives (Ok contents))) (omega arith) few

    read_so : RuleLines → Opened
    read_so rules = record { file = file; text = text; rules = rules }

    cost_rules : {b : ℕ} (rules : RuleLines) (read : Result RuleLines RulesFault) → W
        → b ≤ 12 + length text
        → Costs m (by_rules format name (read_so rules) read) (with_rules format bytes read) 4
        (calls_by_rules read) b most W
    unfolding text sizing read_so size contents file
    cost_rules rules (Err fault) w few =
        let all = within in cost_none (Err (Rules fault)) (omega arith) (omega (arith, few, all))
    cost_rules {b = b} rules (Ok given) w few = cost_memory _ w (sized given)
      where
        sized : (given : RuleLines)
            → Costs m (bind_ok (sizing name (read_so rules) (format.size given))
            (λ t. with_memory (gives (Ok (record { text = text; rules = given })))))
            (of_size bytes (record { text = kept_text bytes; rules = given }) (format.size given))
            4 5 b most W
        sized given =
            let o : Opened = read_so rules in
            let all : b + 4 ≤ most = (let a = all_within in omega (arith, few, a)) in
            subst (λ (z : Result Contents TableFault).
            Costs m (bind_ok (sizing name o (format.size given))
            (λ t. with_memory (gives (Ok (record { text = text; rules = given }))))) z 4 5 b most W)
            (last_gives given o refl refl)
            (cost_first (number_of name (12 + length text)) (λ kept. gives (sized_as o (format.size given) kept))
            (λ t. with_memory (gives (Ok (contents given))))
            (cost_number (12 + length text)
            (λ kept. bind_ok (gives (sized_as o (format.size given) kept))
            (λ t. with_memory (gives (Ok (contents given)))))
            (cost_last given (sized_as o (format.size given) (number_at (12 + length text) bytes)) w all)))

    cost_kept : {b : ℕ} (read : Result RuleLines RulesFault) → rules_of text ≡ read
        → b ≤ 12 + length text
        → Costs m (bind_ok (kept_as file text read) (by_text format name))
        (with_rules format bytes (format.read text)) 4 (calls_by_rules (format.read text)) b most W
    unfolding read_so
    cost_kept {b = b} (Err fault) is few =
        let all = within in
        subst (λ x. Costs m (bind_ok (kept_as file text (Err fault)) (by_text format name))
        (with_rules format bytes x) 4 (calls_by_rules x) b most W) (sym (refines.refuses text fault is))
        (cost_refused (Rules fault) (by_text format name) (omega arith) (omega (arith, few, all)))
    cost_kept (Ok rules) is few =
        let w : W = wants (inr (rules, is)) in
        cost_memory_first (gives (Ok (read_so rules))) (by_text format name) w
        (cost_came (read_so rules) (by_text format name) (cost_rules rules (format.read text) w few))

    cost_reading : {b : ℕ} → b ≤ 12 + length text
        → Costs m (bind_ok (reading file text) (by_text format name))
        (with_rules format bytes (format.read text)) 4 (calls_by_rules (format.read text)) b most W
    unfolding reading
    cost_reading {b = b} few = either (may_want_memory text) refl
      where
        either : (t : Bool) → may_want_memory text ≡ t
            → Costs m (bind_ok (cond t (with_memory (kept_as file text (rules_of text)))
            (kept_as file text (rules_of text))) (by_text format name))
            (with_rules format bytes (format.read text)) 4 (calls_by_rules (format.read text)) b most W
        either true is =
            cost_memory_first (kept_as file text (rules_of text)) (by_text format name)
            (wants (inl is)) (cost_kept (rules_of text) refl few)
        either false is = cost_kept (rules_of text) refl few

    cost_head : {b : ℕ} → b ≤ 12
        → Costs m (after_head format name (record { file = length bytes; text = kept_length bytes }))
        (with_rules format bytes (format.read (kept_text bytes))) 3
        (calls_by_rules (format.read (kept_text bytes))) b most W
    unfolding text file
    cost_head {b = b} few =
        let e = long in
        cost_first (ask_bytes name 12 (kept_length bytes)) (reading (length bytes)) (by_text format name)
        (cost_read 12 (kept_length bytes) (λ l. bind_ok (reading (length bytes) l) (by_text format name))
        (cost_reading (omega (arith, few, e))))

  after : Head → Asks (Result Contents TableFault)
  after = after_head format name

  few_asked : (n : ℕ) → n ≤ 16 → n ≤ most
  unfolding most
  few_asked n h = omega (arith, h)

  cost_length : {b : ℕ} → 16 ≤ length bytes → take 8 bytes ≡ format.magic (take 8 bytes) → b ≤ 12
      → Costs m (bind_ok (by_length (length bytes) (kept_length bytes)) after) (with_length format bytes)
      3 (calls_by_length format bytes) b most W
  unfolding after
  cost_length {b = b} enough begins few =
      let short : b ≤ most = few_asked b (omega (arith, few)) in
      cost_if_first (nat_lt 65536 (kept_length bytes)) _ _ after
      (λ e. cost_refused _ after (omega arith) short)
      (λ e. cost_if_first (nat_lt (length bytes) (16 + kept_length bytes)) _ _ after
      (λ k. cost_refused _ after (omega arith) short)
      (λ k. cost_came _ after (cost_head (record {
        enough = enough;
        begins = begins;
        short = at_least 65536 (kept_length bytes) e;
        fits = at_least (length bytes) (16 + kept_length bytes) k;
      }) few)))

  cost_magic : {b : ℕ} → 16 ≤ length bytes → b ≤ 8
      → Costs m (bind_ok (by_magic name (front_of format) (length bytes) (take 8 bytes)) after)
      (with_magic format bytes) 2 (calls_by_magic format bytes) b most W
  cost_magic {b = b} enough few =
      cost_if_first (bytes_eq (take 8 bytes) (format.magic (take 8 bytes))) _ _ after
      (λ e. cost_first (number_of name 8) (by_length (length bytes)) after
      (cost_number 8 (λ n. bind_ok (by_length (length bytes) n) after)
      (cost_length enough ((bytes_eq-Decides (take 8 bytes) (format.magic (take 8 bytes))).0 e) (omega (arith, few)))))
      (λ e. cost_refused (magic_fault (format.other (take 8 bytes))) after (omega arith) (few_asked b (omega (arith, few))))

  pub cost_held : Costs m (bind_ok (by_size name (front_of format) (Some (length bytes))) (after_head format name))
      (opened format (Some bytes)) 1 (opening_calls format (Some bytes)) 0 (most_asked (Some bytes))
      (WantsMemory (format.magic (take 8 bytes)) bytes)
  unfolding opened opening_calls after most W
  cost_held =
      cost_if_first (nat_lt (length bytes) 16) _ _ after
      (λ e. cost_refused _ after (omega arith) (few_asked 0 (omega arith)))
      (λ e. cost_first (ask_bytes name 0 8) (by_magic name (front_of format) (length bytes)) after
      (cost_read 0 8 (λ l. bind_ok (by_magic name (front_of format) (length bytes) l) after)
      (cost_magic (at_least (length bytes) 16 e) (omega arith))))

pub open_costs : (m : Files) (format : Format) (name : List ℕ) → Refines format
    → Costs m (opening format name) (opened format (m name)) 0 (opening_calls format (m name)) 0
    (most_asked (m name)) (IsSomeAnd (m name) (WantsDue format))
unfolding opening texting heading opened opening_calls
open_costs m format name refines =
    subst (λ p. Costs m p (opened format (m name)) 0 (opening_calls format (m name)) 0
    (most_asked (m name)) (IsSomeAnd (m name) (WantsDue format)))
    (sym (bind_ok-assoc (heading name (front_of format)) (by_head name) (by_text format name)))
    (cost_first (ask_size name) (by_size name (front_of format)) (after_head format name)
    (cost_size name (λ n. bind_ok (by_size name (front_of format) n) (after_head format name))
    (by_held (m name) refl)))
  where
    by_held : (held : Option (List ℕ)) → m name ≡ held
        → Costs m (bind_ok (by_size name (front_of format) (option_map length held)) (after_head format name))
        (opened format held) 1 (opening_calls format held) 0 (most_asked held)
        (IsSomeAnd held (WantsDue format))
    by_held None e = cost_refused Missing (after_head format name) (omega arith) (omega arith)
    by_held (Some bytes) e = cost_held m format refines name bytes e

-- How a line that was read is counted, and what is then still to be answered.
use Rattle.std.proofs.Common.{◌≡◌, ◌≢◌, ◌≤◌, ◌<◌, refl, sym, ap, subst, ◌∙◌, ℕ, zero, suc, ◌+◌, true, false, List, [], ◌∷◌, ◌++◌, length, Option, Some, None, Result, Ok, Err, arith, append_assoc, append-nil}
use Rattle.std.specs.Result.{IsErr}
use Rattle.frz_store.specs.Told.{SourceTold}
use Rattle.frz_store.specs.declared.outside.Failed.{Failed}
use Rattle.frz_ways.specs.Hearing.{HasEnded, IsOneLine}
use Rattle.frz_ways.specs.SessionFaults.{TookBytes}
use Rattle.frz_ways.proofs.Lemmas.{took_none}
use Rattle.frz_commands_inquiry.specs.declared.inquiring.Halt.{Halt}
use Rattle.frz_commands_inquiry.specs.declared.inquiring.Halt.TheVariants.{InputEnded, Lines, LineLength}
use Rattle.frz_commands_inquiry.specs.declared.inquiring.Reader.{Reader}
use Rattle.frz_commands_inquiry.specs.declared.input_line.NextLine.{NextLine}
use Rattle.frz_commands_inquiry.specs.declared.input_line.NextLine.TheVariants.{Nothing, Whole, Last, TooLong}
use Rattle.frz_commands_inquiry.specs.declared.input_line.TheConstants.{MOST_LENGTH}
use Rattle.frz_commands_inquiry.specs.Inquiries.{answering, halts, inquiry}
use Rattle.frz_commands_inquiry.specs.LinesTaken.{GaveLine, TakesLine, TookTooLong, after_line, no_line}
use Rattle.frz_commands_inquiry.proofs.InputLines.{asks_line, asks_too_long, takes_part}

abbrev Reply : Type 0
Reply = List ℕ → List ℕ

none_left : (reply : Reply) (more : ℕ) (rest : List ℕ) → more ≡ 0
    → inquiry reply more rest ≡ halts Lines 0
none_left reply zero rest e = refl
none_left reply (suc more) rest e = cc

-- as many lines as may be were read
pub limit_reached : (old : Reader) (line : List ℕ) (source : SourceTold) → old.more ≡ 0
    → (old.ended ≡ true → HasEnded source)
    → TakesLine old old (Ok (Some Lines)) line source source
limit_reached old line source none has = record {
  bytes = [];
  took = took_none source source refl;
  ended = has;
  stays = λ e. (refl, e);
  counted = refl;
  told = λ reply rest may. none_left reply old.more rest none;
}

at_the_end : (reply : Reply) (more : ℕ) (rest : List ℕ) → 0 < more → rest ≡ []
    → inquiry reply more rest ≡ halts InputEnded 0
at_the_end reply zero rest l e = absurd (omega arith)
at_the_end reply (suc more) [] l e = refl
at_the_end reply (suc more) (b ∷ rest) l e = absurd (cc)

-- the end was seen before, or now
input_is_over : (old new : Reader) → 0 < old.more → new.more ≡ old.more → new.ended ≡ true
    → (line : List ℕ) (source left : SourceTold) → TookBytes [] source left → HasEnded left
    → TakesLine old new (Ok (Some InputEnded)) line source left
input_is_over old new some same ended line source left took has = record {
  bytes = [];
  took = took;
  ended = λ e. has;
  stays = λ e. (refl, ended);
  counted = same;
  told = λ reply rest may. at_the_end reply old.more rest some (may ended);
}

pub end_seen_before : (old : Reader) (line : List ℕ) (source : SourceTold) → 0 < old.more
    → old.ended ≡ true → (old.ended ≡ true → HasEnded source)
    → TakesLine old old (Ok (Some InputEnded)) line source source
end_seen_before old line source some ended has =
    input_is_over old old some refl ended line source source (took_none source source refl)
    (has ended)

-- a number above 0 is one more than another
above_zero : (n : ℕ) → 0 < n → (m : ℕ) × (n ≡ suc m)
above_zero zero l = absurd (omega arith)
above_zero (suc n) l = (n, refl)

too_long : (old : Reader) → 0 < old.more → old.ended ≡ false
    → (line : List ℕ) (source left : SourceTold) → TookTooLong source left
    → TakesLine old old (Ok (Some LineLength)) line source left
too_long old some going line source left took =
    let m = above_zero old.more some in record {
      bytes = took.0;
      took = took.3;
      ended = λ e. absurd (cc);
      stays = λ e. absurd (cc);
      counted = refl;
      told = λ reply rest may. subst
          (λ n. inquiry reply n (took.0 ++ rest) ≡ halts LineLength (length took.0)) (sym m.1)
          (asks_too_long reply m.0 took.0 rest took.1 took.2);
    }

pub input_failed : (old : Reader) (result : Result (Option Halt) Failed) (line : List ℕ)
    (source left : SourceTold) → 0 < old.more → old.ended ≡ false → IsErr result
    → length line ≤ MOST_LENGTH → IsOneLine line × TookBytes line source left
    → TakesLine old old result line source left
input_failed old (Ok x) line source left some going failed few took = cc
input_failed old (Err fault) line source left some going failed few took =
    let m = above_zero old.more some in record {
      bytes = line;
      took = took.1;
      ended = λ e. absurd (cc);
      stays = λ e. absurd (cc);
      counted = refl;
      told = λ reply rest may. subst
          (λ n. length line ≤ (inquiry reply n (line ++ rest)).taken) (sym m.1)
          (takes_part reply m.0 line rest took.0 few);
    }

longer_not_empty : (line tail : List ℕ) (b : ℕ) → line ++ b ∷ tail ≢ []
longer_not_empty [] tail b = λ e. absurd (cc)
longer_not_empty (a ∷ line) tail b = λ e. absurd (cc)

whole_line_came : (old new : Reader) → old.more ≡ new.more + 1 → old.ended ≡ false
    → new.ended ≡ false
    → (line : List ℕ) (source left : SourceTold) → IsOneLine line → length line ≤ MOST_LENGTH
    → TookBytes (line ++ 10 ∷ []) source left → TakesLine old new (Ok None) line source left
whole_line_came old new more before going line source left one few took =
    let next : old.more ≡ suc new.more = omega (arith, more) in record {
      bytes = line ++ 10 ∷ [];
      took = took;
      ended = λ e. absurd (cc);
      stays = λ e. absurd (cc);
      counted = sym more;
      told = λ reply rest may. subst
          (λ n. inquiry reply n ((line ++ 10 ∷ []) ++ rest) ≡ answering (reply line)
          (length (line ++ 10 ∷ [])) (inquiry reply new.more rest)) (sym next)
          (ap (λ (l : List ℕ). inquiry reply (suc new.more) l) (append_assoc line (10 ∷ []) rest)
          ∙ asks_line reply new.more line (10 ∷ rest) one refl few
          (longer_not_empty line rest 10));
    }

last_line_came : (old new : Reader) → old.more ≡ new.more + 1 → old.ended ≡ false → new.ended ≡ true
    → (line : List ℕ) (source left : SourceTold) → IsOneLine line → length line ≤ MOST_LENGTH
    → line ≢ [] → TookBytes line source left → HasEnded left
    → TakesLine old new (Ok None) line source left
last_line_came old new more before ended line source left one few some took has =
    let next : old.more ≡ suc new.more = omega (arith, more) in record {
      bytes = line;
      took = took;
      ended = λ e. has;
      stays = λ e. absurd (cc);
      counted = sym more;
      told = λ reply rest may. subst
          (λ n. inquiry reply n (line ++ rest) ≡ answering (reply line) (length line)
          (inquiry reply new.more rest)) (sym next)
          (subst (λ (r : List ℕ). inquiry reply (suc new.more) (line ++ r) ≡ answering
          (reply line) (length line) (inquiry reply new.more r)) (sym (may ended))
          (asks_line reply new.more line [] one refl few
          (λ e. some (sym (append-nil line) ∙ e))
          ∙ ap (λ (l : List ℕ). answering (reply line) (length l) (inquiry reply new.more []))
          (append-nil line)));
    }

line_read : (next : NextLine) (old : Reader) → 0 < old.more → old.ended ≡ false
    → (line : List ℕ) (source left : SourceTold) → length line ≤ MOST_LENGTH
    → GaveLine (Ok next) line source left
    → TakesLine old (after_line old next) (Ok (no_line next)) line source left
line_read Nothing old some going line source left few gave =
    input_is_over old (after_line old Nothing) some refl refl line source left gave.0 gave.1
line_read TooLong old some going line source left few gave =
    too_long old some going line source left gave
line_read Whole old some going line source left few gave =
    whole_line_came old (after_line old Whole) (omega arith) going going line source left gave.0 few
    gave.1
line_read Last old some going line source left few gave =
    last_line_came old (after_line old Last) (omega arith) going refl line source left gave.0 few
    gave.1
    gave.2 gave.3

-- the line that was read, as it was counted
pub line_taken : (next : NextLine) (old new : Reader) (why : Option Halt) (line : List ℕ)
    (source left : SourceTold) → 0 < old.more → old.ended ≡ false → length line ≤ MOST_LENGTH
    → GaveLine (Ok next) line source left → new ≡ after_line old next → why ≡ no_line next
    → TakesLine old new (Ok why) line source left
line_taken next old new why line source left some going few gave e is =
    subst (λ (o : Option Halt). TakesLine old new (Ok o) line source left) (sym is)
    (subst (λ (r : Reader). TakesLine old r (Ok (no_line next)) line source left) (sym e)
    (line_read next old some going line source left few gave))

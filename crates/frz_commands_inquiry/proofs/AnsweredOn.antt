-- The lines that were answered so far.
use Rattle.std.proofs.Common.{◌≡◌, refl, sym, ap, ◌∙◌, ℕ, ◌+◌, true, List, [], ◌++◌, length, Some, None, Ok, Err, inl, inr, arith, append_assoc, append-nil, length-append}
use Rattle.std.specs.Prelude.{codes}
use Rattle.frz_store.specs.Told.{SourceTold, SinkTold}
use Rattle.frz_store.specs.declared.outside.Failed.{Failed}
use Rattle.frz_answer.specs.Answers.{IsLines}
use Rattle.frz_answer.specs.Texts.{TookText, FailedWithin}
use Rattle.frz_answer.proofs.Lemmas.{failed_next, took_next, took_nothing}
use Rattle.frz_ways.specs.Hearing.{HasEnded}
use Rattle.frz_ways.specs.SessionFaults.{TookBytes}
use Rattle.frz_ways.proofs.Lemmas.{took_none, took_on}
use Rattle.frz_commands_inquiry.specs.declared.inquiring.Broken.TheVariants.{Input, Output}
use Rattle.frz_commands_inquiry.specs.declared.inquiring.Halt.{Halt}
use Rattle.frz_commands_inquiry.specs.declared.inquiring.Reader.{Reader}
use Rattle.frz_commands_inquiry.specs.declared.inquiring.TheConstants.{MOST_LINES}
use Rattle.frz_commands_inquiry.specs.Inquired.{Inquired}
use Rattle.frz_commands_inquiry.specs.Inquiries.{Inquiry, answering, halts, inquiry}
use Rattle.frz_commands_inquiry.specs.LinesTaken.{MayFollow, TakesLine}

-- this text and so many bytes before an inquiry
abbrev pub before : List ℕ → ℕ → Inquiry → Inquiry
before text count told =
    record { text = text ++ told.text; halt = told.halt; taken = count + told.taken }

-- one answer more
before_answer : (text bytes reply next : List ℕ) (told : Inquiry)
    → before text (length bytes) (answering reply (length next) told)
    ≡ before (text ++ (reply ++ codes "\n")) (length (bytes ++ next)) told
before_answer text bytes reply next told =
    ap (λ (t : List ℕ). record {
      text = t;
      halt = told.halt;
      taken = length bytes + (length next + told.taken);
    }) (sym (append_assoc text (reply ++ codes "\n") told.text))
    ∙ ap (λ n. record {
      text = (text ++ (reply ++ codes "\n")) ++ told.text;
      halt = told.halt;
      taken = n;
    }) (let long = length-append bytes next in omega (arith, long))

-- a text with one line more consists of lines
line_more : (text reply : List ℕ) → IsLines (text ++ (reply ++ codes "\n"))
line_more text reply = inr (text ++ reply, sym (append_assoc text reply (codes "\n")))

both_none : (first next : List ℕ) → first ≡ [] → next ≡ [] → first ++ next ≡ []
both_none first next e f = ap (λ (l : List ℕ). l ++ next) e ∙ f

module _ (reply : List ℕ → List ℕ) where
  -- so much was written and taken; what follows is answered by the lines that may still be read
  pub record AnsweredOn (now : Reader) (source left : SourceTold) (out taken : SinkTold) :
      Type 0 where
    pub text : List ℕ
    pub bytes : List ℕ
    pub lines : IsLines text
    pub wrote : TookText text out taken
    pub took : TookBytes bytes source left
    pub ended : now.ended ≡ true → HasEnded left
    pub on : (rest : List ℕ) → MayFollow now rest →
        inquiry reply MOST_LINES (bytes ++ rest)
        ≡ before text (length bytes) (inquiry reply now.more rest)

  none_before : (n more : ℕ) (rest : List ℕ) → more ≡ n
      → inquiry reply n ([] ++ rest) ≡ before [] 0 (inquiry reply more rest)
  none_before n more rest e =
      let told = inquiry reply n rest in
      ap (λ k. record { text = told.text; halt = told.halt; taken = k })
      (let none : told.taken ≡ 0 + told.taken = omega arith in none)
      ∙ ap (λ k. before [] 0 (inquiry reply k rest)) (sym e)

  pub none_answered : (now : Reader) → now.more ≡ MOST_LINES → (now.ended ≡ true → ⊥)
      → (source : SourceTold) (out : SinkTold) → AnsweredOn now source source out out
  none_answered now all going source out = record {
    text = [];
    bytes = [];
    lines = inl refl;
    wrote = took_nothing out;
    took = took_none source source refl;
    ended = λ e. absurd (going e);
    on = λ rest may. none_before MOST_LINES now.more rest all;
  }

  module _ {now : Reader} {source mid : SourceTold} {out taken : SinkTold}
      (far : AnsweredOn now source mid out taken) where
    -- what the next line gives, behind what was answered
    with_next : (next : Reader) (bytes rest : List ℕ) (told : Inquiry)
        → (now.ended ≡ true → (bytes ≡ []) × (next.ended ≡ true)) → MayFollow next rest
        → inquiry reply now.more (bytes ++ rest) ≡ told
        → inquiry reply MOST_LINES ((far.bytes ++ bytes) ++ rest)
        ≡ before far.text (length far.bytes) told
    with_next next bytes rest told stays may is =
        ap (λ (l : List ℕ). inquiry reply MOST_LINES l) (append_assoc far.bytes bytes rest)
        ∙ (far.on (bytes ++ rest)
        (λ e. let s = stays e in both_none bytes rest s.0 (may s.1))
        ∙ ap (before far.text (length far.bytes)) is)

    -- a line more was answered
    pub answered_more : {next : Reader} {left : SourceTold} {line : List ℕ} {new : SinkTold} → TakesLine now next (Ok None) line mid left
        → TookText (reply line ++ codes "\n") taken new
        → AnsweredOn next source left out new
    answered_more {next} {left} {line} t wrote = record {
      text = far.text ++ (reply line ++ codes "\n");
      bytes = far.bytes ++ t.bytes;
      lines = line_more far.text (reply line);
      wrote = took_next far.wrote wrote;
      took = took_on far.bytes t.bytes source mid left far.took t.took;
      ended = t.ended;
      on = λ rest may.
          with_next next t.bytes rest _ t.stays may (t.told reply rest may)
          ∙ before_answer far.text far.bytes (reply line) t.bytes (inquiry reply next.more rest);
    }

    -- there is no line
    pub no_more_lines : {next : Reader} {left : SourceTold} {line : List ℕ} {halt : Halt} → TakesLine now next (Ok (Some halt)) line mid left
        → Inquired reply (Ok halt) source left out taken
    no_more_lines {next} {left} {line} {halt} t = record {
      text = far.text;
      bytes = far.bytes ++ t.bytes;
      lines = far.lines;
      wrote = far.wrote;
      took = took_on far.bytes t.bytes source mid left far.took t.took;
      over = next.ended;
      ended = t.ended;
      told = λ rest may.
          with_next next t.bytes rest (halts halt (length t.bytes)) t.stays may (t.told reply rest may)
          ∙ (ap (λ (l : List ℕ). record {
            text = l;
            halt = halt;
            taken = length far.bytes + length t.bytes;
          }) (append-nil far.text)
          ∙ ap (λ n. record { text = far.text; halt = halt; taken = n })
          (sym (length-append far.bytes t.bytes)));
    }

    -- the input failed
    pub input_failed : {next : Reader} {left : SourceTold} {line : List ℕ} {fault : Failed} → TakesLine now next (Err fault) line mid left
        → Inquired reply (Err Input) source left out taken
    input_failed {next} {left} t = record {
      text = far.text;
      bytes = far.bytes ++ t.bytes;
      lines = far.lines;
      wrote = far.wrote;
      took = took_on far.bytes t.bytes source mid left far.took t.took;
      over = next.ended;
      ended = t.ended;
      told = λ rest may.
          let told = inquiry reply now.more (t.bytes ++ rest) in
          let is = with_next next t.bytes rest told t.stays may refl in
          let count = ap (λ (i : Inquiry). i.taken) is in
          let few = t.told reply rest may in
          let long = length-append far.bytes t.bytes in (
            (told.text, sym (ap (λ (i : Inquiry). i.text) is)),
            omega (arith, count, few, long),
          );
    }

    -- the sink failed within the reply
    pub output_failed : {next : Reader} {left : SourceTold} {line : List ℕ} {new : SinkTold} → TakesLine now next (Ok None) line mid left
        → FailedWithin (reply line ++ codes "\n") taken new
        → Inquired reply (Err Output) source left out new
    output_failed {next} {left} {line} t failed = record {
      text = far.text ++ (reply line ++ codes "\n");
      bytes = far.bytes ++ t.bytes;
      lines = line_more far.text (reply line);
      wrote = failed_next far.wrote failed;
      took = took_on far.bytes t.bytes source mid left far.took t.took;
      over = next.ended;
      ended = t.ended;
      told = λ rest may.
          let after = inquiry reply next.more rest in
          let is = with_next next t.bytes rest _ t.stays may (t.told reply rest may)
          ∙ before_answer far.text far.bytes (reply line) t.bytes after in
          let count = ap (λ (i : Inquiry). i.taken) is in (
            (after.text, sym (ap (λ (i : Inquiry). i.text) is)),
            omega (arith, count),
          );
    }

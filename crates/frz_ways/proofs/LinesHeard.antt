-- The lines of an input up to a reply, one after the other.
use Rattle.std.proofs.Common.{◌≡◌, ◌≢◌, ◌≤◌, ◌<◌, refl, sym, ap, subst, ◌∙◌, ℕ, zero, suc, ◌+◌, true, false, List, [], ◌∷◌, ◌++◌, length, Option, Some, None, Result, Ok, Err, inl, inr, arith, append_assoc, append-nil}
use Rattle.std.specs.Prelude.{codes}
use Rattle.std.specs.Result.{IsErr, IsErrAnd}
use Rattle.frz_board.specs.Moving.{Step}
use Rattle.frz_sets.specs.declared.exit.Value.{Value}
use Rattle.frz_store.specs.Told.{SourceTold, SinkTold}
use Rattle.frz_store.specs.declared.outside.Failed.{Failed}
use Rattle.frz_answer.specs.Texts.{TookText, FailedWithin}
use Rattle.frz_answer.proofs.Lemmas.{took_nothing, took_behind, failed_behind}
use Rattle.frz_arena.specs.declared.arm.Arm.{Arm}
use Rattle.frz_arena.specs.Inputs.{Answer, Reply, Stop}
use Rattle.frz_ways.specs.declared.end.LineFault.TheVariants as faults
use Rattle.frz_ways.specs.declared.session_end.PlayFault.{PlayFault}
use Rattle.frz_ways.specs.declared.session_end.PlayFault.TheVariants as plays
use Rattle.frz_ways.specs.declared.session_end.PlayLimit.TheVariants.{LineLength}
use Rattle.frz_ways.specs.declared.session_end.TheConstants.{MOST_LENGTH}
use Rattle.frz_ways.specs.declared.hearing.Heard.{Heard}
use Rattle.frz_ways.specs.declared.hearing.Heard.TheVariants as heard
use Rattle.frz_ways.specs.declared.hearing.Reader.{Reader}
use Rattle.frz_ways.specs.declared.hearing.Why.{Why}
use Rattle.frz_ways.specs.declared.input_line.NextLine.{NextLine}
use Rattle.frz_ways.specs.declared.input_line.NextLine.TheVariants.{Nothing, Whole, Last, TooLong}
use Rattle.frz_ways.specs.declared.hearing.Why.TheVariants.{Ended, Limit}
use Rattle.frz_ways.specs.SessionFaults.{TookBytes, WroteBy}
use Rattle.frz_ways.specs.Hearing.{HasEnded, IsOneLine, TookTooLong, GaveLine, MayFollow, StaysEnded, EndsWith, HearsLine, Hears, IsHeard, LeavesFewer, MayFail, after_line, no_line, left_by, refuse}
use Rattle.frz_ways.specs.Reading.{Input, Halt, halted, place_said, refuse_one, reply_or, reads}
use Rattle.frz_ways.specs.SessionTexts.{refused_text}
use Rattle.frz_ways.proofs.InputLines.{reads_line, reads_too_long, reads_behind, reads_front, refuse_inside, refuse_reply, refuse_stop}
use Rattle.frz_ways.proofs.Taking.{took_none, took_on}

reads_end_of_input : (arms : List (Arm Step ℕ Value)) (more : ℕ) (rest : List ℕ) → 0 < more
    → rest ≡ []
    → reads arms more rest ≡ Stop (halted Ended) (record { left = rest; more = more })
reads_end_of_input arms zero rest l e = absurd (omega arith)
reads_end_of_input arms (suc more) [] l e = refl
reads_end_of_input arms (suc more) (b ∷ rest) l e = absurd (cc)

-- the end was seen before, or now
input_is_over : (old new : Reader) → 0 < old.more → new.more ≡ old.more → new.ended ≡ true
    → (line : List ℕ) (source left : SourceTold) → TookBytes [] source left → HasEnded left
    → HearsLine old new (Ok (Some Ended)) line source left
input_is_over old new some same ended line source left took has = record {
  bytes = [];
  took = took;
  ended = λ e. has;
  stays = λ e. (refl, ended);
  fewer = same;
  heard = λ arms rest may. subst
      (λ n. reads arms old.more rest ≡ Stop (halted Ended) (record { left = rest; more = n }))
      (sym same) (reads_end_of_input arms old.more rest some (may ended));
}

pub end_seen_before : (old : Reader) (line : List ℕ) (source : SourceTold) → 0 < old.more
    → old.ended ≡ true → (old.ended ≡ true → HasEnded source)
    → HearsLine old old (Ok (Some Ended)) line source source
end_seen_before old line source some ended has =
    input_is_over old old some refl ended line source source (took_none source source refl)
    (has ended)

-- a number above 0 is one more than another
above_zero_is_next : (n : ℕ) → 0 < n → (m : ℕ) × (n ≡ suc m)
above_zero_is_next zero l = absurd (omega arith)
above_zero_is_next (suc n) l = (n, refl)

too_long : (old : Reader) → 0 < old.more → old.ended ≡ false
    → (line : List ℕ) (source left : SourceTold) → TookTooLong source left
    → HearsLine old old (Ok (Some (Limit LineLength))) line source left
too_long old some going line source left took =
    let m = above_zero_is_next old.more some in record {
      bytes = took.0;
      took = took.3;
      ended = λ e. absurd (cc);
      stays = λ e. absurd (cc);
      fewer = refl;
      heard = λ arms rest may. subst
          (λ n. reads arms n (took.0 ++ rest) ≡ Stop (halted (Limit LineLength))
          (record { left = rest; more = n })) (sym m.1)
          (reads_too_long arms m.0 took.0 rest took.1 took.2);
    }

failed_line : (old : Reader) → 0 < old.more → old.ended ≡ false
    → (fault : Failed) (line : List ℕ) (source left : SourceTold) → IsOneLine line
    → length line ≤ MOST_LENGTH → TookBytes line source left
    → HearsLine old old (Err fault) line source left
failed_line old some going fault line source left one few took =
    let m = above_zero_is_next old.more some in record {
      bytes = line;
      took = took;
      ended = λ e. absurd (cc);
      stays = λ e. absurd (cc);
      fewer = refl;
      heard = λ arms rest may. subst (λ n. EndsWith (left_by (reads arms n (line ++ rest))) rest)
          (sym m.1) (reads_behind arms m.0 line rest one few);
    }

pub input_failed : (old : Reader) (result : Result (Option Why) Failed) (line : List ℕ)
    (source left : SourceTold) → 0 < old.more → old.ended ≡ false → IsErr result
    → length line ≤ MOST_LENGTH → IsOneLine line × TookBytes line source left
    → HearsLine old old result line source left
input_failed old (Ok x) line source left some going failed few took = cc
input_failed old (Err fault) line source left some going failed few took =
    failed_line old some going fault line source left took.0 few took.1

longer_not_empty : (line tail : List ℕ) (b : ℕ) → line ++ b ∷ tail ≢ []
longer_not_empty [] tail b = λ e. absurd (cc)
longer_not_empty (a ∷ line) tail b = λ e. absurd (cc)

whole_line_came : (old new : Reader) → old.more ≡ new.more + 1 → old.ended ≡ false
    → new.ended ≡ false
    → (line : List ℕ) (source left : SourceTold) → IsOneLine line → length line ≤ MOST_LENGTH
    → TookBytes (line ++ 10 ∷ []) source left → HearsLine old new (Ok None) line source left
whole_line_came old new more before going line source left one few took =
    let next : old.more ≡ suc new.more = omega (arith, more) in record {
      bytes = line ++ 10 ∷ [];
      took = took;
      ended = λ e. absurd (cc);
      stays = λ e. absurd (cc);
      fewer = omega (arith, more);
      heard = λ arms rest may. subst
          (λ n. reads arms n ((line ++ 10 ∷ []) ++ rest) ≡ reply_or (place_said arms line)
          (record { left = rest; more = new.more }) (reads arms new.more rest)) (sym next)
          (ap (λ (l : List ℕ). reads arms (suc new.more) l) (append_assoc line (10 ∷ []) rest)
          ∙ reads_line arms new.more line (10 ∷ rest) one refl few (longer_not_empty line rest 10));
    }

last_line_came : (old new : Reader) → old.more ≡ new.more + 1 → old.ended ≡ false → new.ended ≡ true
    → (line : List ℕ) (source left : SourceTold) → IsOneLine line → length line ≤ MOST_LENGTH
    → line ≢ [] → TookBytes line source left → HasEnded left
    → HearsLine old new (Ok None) line source left
last_line_came old new more before ended line source left one few some took has =
    let next : old.more ≡ suc new.more = omega (arith, more) in record {
      bytes = line;
      took = took;
      ended = λ e. has;
      stays = λ e. absurd (cc);
      fewer = omega (arith, more);
      heard = λ arms rest may. subst
          (λ n. reads arms n (line ++ rest) ≡ reply_or (place_said arms line)
          (record { left = rest; more = new.more }) (reads arms new.more rest)) (sym next)
          (subst (λ (r : List ℕ). reads arms (suc new.more) (line ++ r) ≡ reply_or
          (place_said arms line) (record { left = r; more = new.more }) (reads arms new.more r))
          (sym (may ended))
          (reads_line arms new.more line [] one refl few (λ e. some (sym (append-nil line) ∙ e))));
    }

line_read : (next : NextLine) (old : Reader) → 0 < old.more → old.ended ≡ false
    → (line : List ℕ) (source left : SourceTold) → length line ≤ MOST_LENGTH
    → GaveLine (Ok next) line source left
    → HearsLine old (after_line old next) (Ok (no_line next)) line source left
line_read Nothing old some going line source left few gave =
    input_is_over old (after_line old Nothing) some refl refl line source left gave.0 gave.1
line_read TooLong old some going line source left few gave =
    too_long old some going line source left gave
line_read Whole old some going line source left few gave =
    whole_line_came old (after_line old Whole) (omega arith) going going line source left gave.0 few
    gave.1
line_read Last old some going line source left few gave =
    last_line_came old (after_line old Last) (omega arith) going refl line source left gave.0 few
    gave.1
    gave.2 gave.3

-- the line that was read, as it was counted
pub line_heard : (next : NextLine) (old new : Reader) (why : Option Why) (line : List ℕ)
    (source left : SourceTold) → 0 < old.more → old.ended ≡ false → length line ≤ MOST_LENGTH
    → GaveLine (Ok next) line source left → new ≡ after_line old next → why ≡ no_line next
    → HearsLine old new (Ok why) line source left
line_heard next old new why line source left some going few gave e is =
    subst (λ (o : Option Why). HearsLine old new (Ok o) line source left) (sym is)
    (subst (λ (r : Reader). HearsLine old r (Ok (no_line next)) line source left) (sym e)
    (line_read next old some going line source left few gave))

-- the lines that were refused so far
pub record HearsOn (arms : List (Arm Step ℕ Value)) (old now : Reader) (source left : SourceTold)
    (out taken : SinkTold) : Type 0 where
  pub refused : ℕ
  pub bytes : List ℕ
  pub wrote : TookText (refused_text refused) out taken
  pub took : TookBytes bytes source left
  pub ended : now.ended ≡ true → HasEnded left
  pub stays : StaysEnded old now bytes
  pub few : now.more ≤ old.more
  pub on : (rest : List ℕ) → MayFollow now rest →
      reads arms old.more (bytes ++ rest) ≡ refuse refused (reads arms now.more rest)

pub hears_start : (arms : List (Arm Step ℕ Value)) (old : Reader) (source : SourceTold)
    (out : SinkTold) → (old.ended ≡ true → HasEnded source)
    → HearsOn arms old old source source out out
hears_start arms old source out has = record {
  refused = 0;
  bytes = [];
  wrote = took_nothing out;
  took = took_none source source refl;
  ended = has;
  stays = λ e. (refl, e);
  few = omega arith;
  on = λ rest may. refl;
}

one_refused : (n : ℕ) → refused_text n ++ codes "illegal\n" ≡ refused_text (suc n)
one_refused zero = refl
one_refused (suc n) = append_assoc (codes "illegal\n") (refused_text n) (codes "illegal\n")
    ∙ ap (λ (l : List ℕ). codes "illegal\n" ++ l) (one_refused n)

both_empty : (a b : List ℕ) → a ≡ [] → b ≡ [] → a ++ b ≡ []
both_empty a b e f = ap (λ (l : List ℕ). l ++ b) e ∙ f

stays_on : (old now next : Reader) (first more : List ℕ) → StaysEnded old now first
    → StaysEnded now next more → StaysEnded old next (first ++ more)
stays_on old now next first more h k = λ e.
    let a = h e in
    let b = k a.1 in
    (both_empty first more a.0 b.0, b.1)

module _ {arms : List (Arm Step ℕ Value)} {old now : Reader} {source mid : SourceTold}
    {out taken : SinkTold} (far : HearsOn arms old now source mid out taken) where
  -- what the next line gives, behind what was refused
  next_line_behind_refused : (next : Reader) (bytes rest : List ℕ) (answer : Answer Input Halt)
      → StaysEnded now next bytes → MayFollow next rest
      → reads arms now.more (bytes ++ rest) ≡ answer
      → reads arms old.more ((far.bytes ++ bytes) ++ rest) ≡ refuse far.refused answer
  next_line_behind_refused next bytes rest answer stays may is =
      ap (λ (l : List ℕ). reads arms old.more l) (append_assoc far.bytes bytes rest)
      ∙ (far.on (bytes ++ rest) (λ e. let s = stays e in both_empty bytes rest s.0 (may s.1))
      ∙ ap (refuse far.refused) is)

  module _ {next : Reader} {left : SourceTold} {line : List ℕ} where
    -- what was heard with the next line, behind so many refused ones
    heard_with : {said : Result (Option Why) Failed} {result : Result Heard PlayFault}
        {new : SinkTold} (n : ℕ) (h : HearsLine now next said line mid left)
        → WroteBy result (refused_text n) out new → LeavesFewer result old.more next.more
        → ((fault : PlayFault) → result ≡ Err fault → MayFail fault)
        → ((rest : List ℕ) → MayFollow next rest
        → IsHeard (reads arms old.more ((far.bytes ++ h.bytes) ++ rest)) n result
        (record { left = rest; more = next.more })) → Hears arms old next result source left out new
    heard_with n h wrote fewer fails heard = record {
      refused = n;
      bytes = far.bytes ++ h.bytes;
      wrote = wrote;
      took = took_on far.bytes h.bytes source mid left far.took h.took;
      ended = h.ended;
      stays = stays_on old now next far.bytes h.bytes far.stays h.stays;
      fewer = fewer;
      fails = fails;
      heard = heard;
    }

    -- there is no line
    pub hears_stop : {why : Why} → HearsLine now next (Ok (Some why)) line mid left
        → Hears arms old next (Ok (heard.Stop why)) source left out taken
    hears_stop {why} h =
        heard_with far.refused h far.wrote
        (let a = far.few in let b = h.fewer in omega (arith, a, b)) (λ f e. absurd (cc))
        (λ rest may. let last : Input = record { left = rest; more = next.more } in
        next_line_behind_refused next h.bytes rest (Stop (halted why) last) h.stays may
        (h.heard arms rest may)
        ∙ refuse_stop far.refused (halted why) last refl)

    -- the input failed
    pub hears_fault : {fault : Failed} → HearsLine now next (Err fault) line mid left
        → Hears arms old next (Err plays.Input) source left out taken
    hears_fault h =
        heard_with far.refused h far.wrote
        (let a = far.few in let b = h.fewer in omega (arith, a, b)) (λ f e. inl (let x = e in cc))
        (λ rest may. let later = reads arms now.more (h.bytes ++ rest) in (
          later,
          next_line_behind_refused next h.bytes rest later h.stays may refl,
          h.heard arms rest may,
        ))

    -- the line says a move
    pub hears_reply : {place : ℕ} → place_said arms line ≡ Some place
        → HearsLine now next (Ok None) line mid left
        → Hears arms old next (Ok (heard.Reply place)) source left out taken
    hears_reply {place} said h =
        heard_with far.refused h far.wrote
        (let a = far.few in let b = h.fewer in omega (arith, a, b)) (λ f e. absurd (cc))
        (λ rest may. let last : Input = record { left = rest; more = next.more } in
        next_line_behind_refused next h.bytes rest (Reply 0 place last) h.stays may
        (h.heard arms rest may
        ∙ ap (λ (o : Option ℕ). reply_or o last (reads arms next.more rest)) said)
        ∙ refuse_reply far.refused place last)

    refused_here : place_said arms line ≡ None → (h : HearsLine now next (Ok None) line mid left)
        → (rest : List ℕ) → MayFollow next rest
        → reads arms old.more ((far.bytes ++ h.bytes) ++ rest)
        ≡ refuse (suc far.refused) (reads arms next.more rest)
    refused_here none h rest may =
        next_line_behind_refused next h.bytes rest (refuse_one (reads arms next.more rest)) h.stays
        may
        (h.heard arms rest may
        ∙ ap (λ (o : Option ℕ). reply_or o (record { left = rest; more = next.more })
        (reads arms next.more rest)) none)
        ∙ refuse_inside far.refused (reads arms next.more rest)

    -- the line is refused
    pub hears_refused : {new : SinkTold} → place_said arms line ≡ None
        → HearsLine now next (Ok None) line mid left → TookText (codes "illegal\n") taken new
        → HearsOn arms old next source left out new
    hears_refused {new} none h wrote = record {
      refused = suc far.refused;
      bytes = far.bytes ++ h.bytes;
      wrote = took_behind (refused_text far.refused) (codes "illegal\n")
          (refused_text (suc far.refused)) out taken new far.wrote (one_refused far.refused) wrote;
      took = took_on far.bytes h.bytes source mid left far.took h.took;
      ended = h.ended;
      stays = stays_on old now next far.bytes h.bytes far.stays h.stays;
      few = (let a = far.few in let b = h.fewer in omega (arith, a, b));
      on = refused_here none h;
    }

    -- the sink failed then
    pub hears_failed : {new : SinkTold} → place_said arms line ≡ None
        → HearsLine now next (Ok None) line mid left → FailedWithin (codes "illegal\n") taken new
        → Hears arms old next (Err (plays.Line faults.Output)) source left out new
    hears_failed {new} none h failed =
        heard_with (suc far.refused) h
        (failed_behind (refused_text far.refused) (codes "illegal\n")
        (refused_text (suc far.refused)) out taken new far.wrote (one_refused far.refused) failed)
        (let a = far.few in let b = h.fewer in omega (arith, a, b)) (λ f e. inr (let x = e in cc))
        (λ rest may. let later = reads arms next.more rest in
        (later, refused_here none h rest may, reads_front arms next.more rest))

-- the same, whatever was to be answered
pub hears_fails : {arms : List (Arm Step ℕ Value)} {old next : Reader} {source left : SourceTold}
    {out new : SinkTold} {result : Result Heard PlayFault}
    → IsErrAnd result (λ e. e ≡ plays.Line faults.Output)
    → Hears arms old next (Err (plays.Line faults.Output)) source left out new
    → Hears arms old next result source left out new
hears_fails {result = Ok x} e h = absurd e
hears_fails {arms} {old} {next} {source} {left} {out} {new} {result = Err fault} e h =
    subst (λ (f : PlayFault). Hears arms old next (Err f) source left out new) (sym e) h

-- a line is heard as what is known of why it is none
pub heard_as : {old new : Reader} {line : List ℕ} {source left : SourceTold}
    {why known : Option Why} → why ≡ known → HearsLine old new (Ok why) line source left
    → HearsLine old new (Ok known) line source left
heard_as {old} {new} {line} {source} {left} e h =
    subst (λ (o : Option Why). HearsLine old new (Ok o) line source left) e h

-- What a journey heard and took of the command's input: a line nothing, and a session what it was
-- played against.
use Rattle.std.proofs.Common.{◌≡◌, ◌++◌, refl, sym, subst, ap, ℕ, List, [], ◌∷◌, take, length, false, Option, Some, Result, Ok, Err, IfSome}
use Rattle.frz_store.specs.Told.{SourceTold}
use Rattle.frz_ways.specs.declared.opponent.Opponent.{Opponent}
use Rattle.frz_ways.specs.declared.opponent.Opponent.TheVariants.{Codes, Input}
use Rattle.frz_ways.specs.declared.session_end.PlayFault.{PlayFault}
use Rattle.frz_ways.specs.declared.session_end.PlayFault.TheVariants as plays
use Rattle.frz_ways.specs.declared.way_end.WayEnd.{WayEnd}
use Rattle.frz_ways.specs.SessionFaults.{InputCause, MayHold, TookBytes}
use Rattle.frz_ways.specs.WayEnds.{IsAnswerOf}
use Rattle.frz_ways.proofs.Lemmas.{took_none}
use Rattle.frz_commands_line.proofs.Lemmas.{rest_left}
use Rattle.frz_commands_journeys.specs.JourneyOf.{heard_by}
use Rattle.frz_commands_line.specs.WayJobs.{input_with, takes_input}

-- of what was heard, these bytes were taken from the command's input
pub record Hears (opponent : Opponent) (whole took : List ℕ) (answer : Result WayEnd PlayFault)
    (source gone : SourceTold) : Type 0 where
  pub bytes : TookBytes took source gone
  pub may : opponent ≡ Input → MayHold source whole
  pub none : opponent ≡ Codes → (whole ≡ []) × (took ≡ [])
  pub cause : InputCause answer source gone

-- an input that stays as it is has not failed
line_input_unfailed : (answer : Result WayEnd PlayFault) → IsAnswerOf answer Codes
    → (source : SourceTold)
    → InputCause answer source source
line_input_unfailed (Ok end) kind source = refl
line_input_unfailed (Err (plays.Line fault)) kind source = refl
line_input_unfailed (Err plays.Input) kind source = (let no : Codes ≡ Input = kind in cc)
line_input_unfailed (Err (plays.Limit limit)) kind source = (let no : Codes ≡ Input = kind in cc)

nothing_first : (took : List ℕ) → take (length took) [] ≡ took → took ≡ []
nothing_first [] e = refl
nothing_first (b ∷ took) e = cc

pub hears_what_it_took : (opponent : Opponent) (told left other : SourceTold) (whole took : List ℕ)
    (answer : Result WayEnd PlayFault) → (opponent ≡ Codes → told.left ≡ Some [])
    → IsAnswerOf answer opponent → TookBytes took told left → MayHold told whole
    → InputCause answer told left
    → Hears opponent whole took answer (input_with opponent told other)
    (input_with opponent left other)
hears_what_it_took Input told left other whole took answer silent kind bytes may cause =
    record { bytes = bytes; may = λ e. may; none = λ e. cc; cause = cause }
hears_what_it_took Codes told left other whole took answer silent kind bytes may cause =
    let no_whole : [] ≡ whole =
    subst (λ (o : Option (List ℕ)). IfSome o (λ t. t ≡ whole)) (silent refl) may in
    let none : took ≡ [] =
    nothing_first took
    (subst (λ (o : Option (List ℕ)). IfSome o (λ l. take (length took) l ≡ took)) (silent refl)
    bytes.front) in
    record {
      bytes = subst (λ (t : List ℕ). TookBytes t other other) (sym none)
          (took_none other other refl);
      may = λ e. cc;
      none = λ e. (sym no_whole, none);
      cause = line_input_unfailed answer kind other;
    }

-- the input over which an answer is given: a session's own, and any for a line
abbrev pub chosen : Opponent → (heard free : List ℕ) → List ℕ
chosen Codes heard free = free
chosen Input heard free = heard

module _ (whole took rest : List ℕ) (answer : Result WayEnd PlayFault) (source gone : SourceTold)
  where
    pub heard_whole : (opponent : Opponent) → Hears opponent whole took answer source gone
        → (free : List ℕ) → heard_by opponent (chosen opponent whole free) ≡ whole
    heard_whole Codes h free = sym (h.none refl).0
    heard_whole Input h free = refl

    pub split_there : (opponent : Opponent) → Hears opponent whole took answer source gone
        → took ++ rest ≡ whole → (free : List ℕ)
        → took ++ chosen opponent rest free ≡ chosen opponent whole free
    split_there Codes h split free = ap (λ (l : List ℕ). l ++ free) (h.none refl).1
    split_there Input h split free = split

    pub may_whole : (opponent : Opponent) → Hears opponent whole took answer source gone
        → (free : List ℕ) → IfSome source.left (λ told. told ≡ free)
        → IfSome source.left (λ told. told ≡ chosen opponent whole free)
    may_whole Codes h free may = may
    may_whole Input h free may = h.may refl

    pub may_rest : (opponent : Opponent) → Hears opponent whole took answer source gone
        → took ++ rest ≡ whole → (free : List ℕ) → IfSome gone.left (λ told. told ≡ free)
        → IfSome gone.left (λ told. told ≡ chosen opponent rest free)
    may_rest Codes h split free may = may
    may_rest Input h split free may =
        rest_left took rest whole source.left gone.left split h.bytes.behind (h.may refl)

    pub none_taken : (opponent : Opponent) → Hears opponent whole took answer source gone
        → takes_input opponent ≡ false → took ≡ []
    none_taken Codes h e = (h.none refl).1
    none_taken Input h e = cc

pub untaken_is_free : (opponent : Opponent) (heard free : List ℕ) → takes_input opponent ≡ false
    → chosen opponent heard free ≡ free
untaken_is_free Codes heard free e = refl
untaken_is_free Input heard free e = cc

-- who takes no input plays a line
pub takes_none : (opponent : Opponent) → takes_input opponent ≡ false → opponent ≡ Codes
takes_none Codes e = refl
takes_none Input e = cc

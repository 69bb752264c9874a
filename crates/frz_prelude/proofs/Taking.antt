-- What was done over the words that were taken was done for the words, and so was their refusal.
use Rattle.std.proofs.Common.{◌≡◌, sym, subst, ℕ, Option, Some, None, Result, Ok, Err, Bool, true, false}
use Rattle.frz_store.specs.Told.{StoreTold}
use Rattle.frz_board.specs.Boards.{Board}
use Rattle.frz_fen.specs.declared.fault.FenFault.{FenFault}
use Rattle.frz_answer.specs.declared.words.Refusal.TheVariants.{Count, SameName}
use Rattle.frz_answer.specs.Jobs.{Job}
use Rattle.frz_answer.specs.Words.{taking, unless}
use Rattle.frz_prelude.specs.Positions.{on_position}
use Rattle.frz_prelude.specs.Replies.{Replies}
use Rattle.frz_prelude.specs.Taken.{counted, placed}
use Rattle.frz_prelude.specs.declared.refused.Refused.{Refused as Refusal}
use Rattle.frz_prelude.specs.declared.refused.Refused.TheVariants.{Words, Fen}
use Rattle.frz_prelude.specs.declared.reply.Reply.{Reply}
use Rattle.frz_prelude.specs.declared.stop.Stop.{Stop}
use Rattle.frz_prelude.specs.declared.stop.Stop.TheVariants.{Refused}
use Rattle.frz_prelude.proofs.Replying.{refused_reply}

-- the words that were taken are these
pub these_words : {A : Type 0} (words : Option A) {these : A} → counted words ≡ Ok these
    → words ≡ Some these
these_words (Some w) e = cc
these_words None e = cc

module _ {reply : Result Reply Stop} {old new : StoreTold} {before now : ℕ} where
  -- there were as many words as the command takes
  pub taken : {A : Type 0} (job : A → Job) (words : Option A) {these : A} → counted words ≡ Ok these
      → Replies (job these) reply old new before now
      → Replies (taking job words) reply old new before now
  taken job (Some w) {these} e done =
      let same : w ≡ these = cc in
      subst (λ x. Replies (job x) reply old new before now) (sym same) done
  taken job None e done = cc

  -- the FEN gives a position
  pub at_position : (job : Board → Job) (read : Result Board FenFault) {p : Board}
      → placed read ≡ Ok p → Replies (job p) reply old new before now
      → Replies (on_position job read) reply old new before now
  at_position job (Ok q) {p} e done =
      let same : q ≡ p = cc in
      subst (λ x. Replies (job x) reply old new before now) (sym same) done
  at_position job (Err fault) e done = cc

  -- the names differ
  pub differ : (job : Job) (same : Bool) → same ≡ false → Replies job reply old new before now
      → Replies (unless same job) reply old new before now
  differ job true e done = cc
  differ job false e done = done

module _ {store : StoreTold} {steps : ℕ} where
  pub not_taken : {A : Type 0} (job : A → Job) (words : Option A) {why : Refusal}
      → counted words ≡ Err why
      → Replies (taking job words) (Err (Refused why)) store store steps steps
  not_taken job (Some w) e = cc
  not_taken job None {why} e =
      let same : Words Count ≡ why = cc in
      subst (λ (w : Refusal). Replies (taking job None) (Err (Refused w)) store store steps steps)
      same (refused_reply (Words Count) store steps)

  pub no_position : (job : Board → Job) (read : Result Board FenFault) {why : Refusal}
      → placed read ≡ Err why
      → Replies (on_position job read) (Err (Refused why)) store store steps steps
  no_position job (Ok p) e = cc
  no_position job (Err fault) {why} e =
      let same : Fen fault ≡ why = cc in
      subst (λ (w : Refusal). Replies (on_position job (Err fault)) (Err (Refused w)) store store
      steps steps) same (refused_reply (Fen fault) store steps)

  pub same_name : (job : Job) (same : Bool) → same ≡ true
      → Replies (unless same job) (Err (Refused (Words SameName))) store store steps steps
  same_name job true e = refused_reply (Words SameName) store steps
  same_name job false e = cc

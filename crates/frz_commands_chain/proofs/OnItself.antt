-- How `chaincheck` ends where one name is both TABLE and BACK: nothing is both kinds of table.
use Rattle.std.proofs.Common.{◌≡◌, refl, sym, ap, subst, ◌∙◌, ℕ, ◌+◌, ◌≤◌, List, [], ◌∷◌, length, Option, Some, Result, Ok, Err, cond, le-ltb, arith}
use Rattle.std.specs.Prelude.{codes, nat_lt}
use Rattle.std.specs.Str.{bytes_eq}
use Rattle.frz_store.specs.Files.{Files}
use Rattle.frz_store.specs.Told.{StoreTold, StoreQuiet, StoreFine}
use Rattle.frz_table.specs.declared.fault.TableFault.{TableFault}
use Rattle.frz_table.specs.declared.fault.TableFault.TheVariants.{Magic, Truncated}
use Rattle.frz_table.specs.declared.kind.FileKind.TheVariants.{Plain, Chained}
use Rattle.frz_table.specs.Faults.{TableCauses}
use Rattle.frz_table.specs.Opening.{Contents, Refuses, opened, opening_calls, table_format, with_length, with_magic}
use Rattle.frz_table.specs.Possible.{MayOpen, MayRefuse, held_text}
use Rattle.frz_table.proofs.Lemmas.{belongs, opened_calls, text_kept}
use Rattle.frz_answer.specs.declared.status.Status.TheVariants.{Success, Wrong, Table, Missing}
use Rattle.frz_answer.specs.Statuses.{OneOf}
use Rattle.frz_answer.specs.Jobs.{WithinCosts}
use Rattle.frz_answer.specs.World.{World, Agrees, spent, world}
use Rattle.frz_answer.proofs.Lemmas.{SaysAll}
use Rattle.frz_prelude.specs.Refusals.{refusal_line, status_of}
use Rattle.frz_prelude.specs.Replies.{Replies}
use Rattle.frz_prelude.specs.Stops.{stop_of_table}
use Rattle.frz_prelude.specs.declared.refused.Refused.{Refused as Refusal}
use Rattle.frz_prelude.specs.declared.refused.Refused.TheVariants as refusals
use Rattle.frz_prelude.specs.declared.stop.Stop.TheVariants.{Refused}
use Rattle.frz_prelude.proofs.Lemmas.{StopsWith, found_where, holding, stop_own, stopped_reply, stops_by, table_cause}
use Rattle.frz_commands_chain.specs.Checking.{pair_costs, refused}
use Rattle.frz_commands_chain.specs.CheckMeans.{checking_pair}
use Rattle.frz_commands_chain.proofs.NoTable.{by_other}
use Rattle.frz_commands_chain.proofs.PairOnce.{some_pair}

-- a table over a back table does not begin as a plain one
chained_is_not_plain : (bytes : List ℕ) (contents : Contents)
    → opened (table_format Chained) (Some bytes) ≡ Ok contents
    → opened (table_format Plain) (Some bytes) ≡ Err Magic
unfolding opened
chained_is_not_plain bytes contents opens =
    let file = (belongs (table_format Chained) bytes contents opens).file in
    let due = file.due in
    let with : List ℕ → Result Contents TableFault = λ l.
    cond (bytes_eq l (codes "FREEZER2")) (with_length (table_format Plain) bytes) (Err Magic) in
    by_other (nat_lt (length bytes) 16) (Err (Truncated (length bytes) 16))
    (with_magic (table_format Plain) bytes) (le-ltb (length bytes) 16 (omega (arith, due)))
    ∙ ap with file.begins

module _ (table : List ℕ) (files : Files) (input : List ℕ) (old new : World)
    (steps : new.steps ≡ old.steps) (agrees : Agrees old files input) where
  -- opening alone is within the costs
  within_held_text : (m : Files) (held : Option (List ℕ)) → m table ≡ held
      → new.store.asked ≤ old.store.asked + (16 + length (held_text held))
      → new.store.calls ≤ old.store.calls + opening_calls (table_format Chained) held
      → WithinCosts (pair_costs (m table) (m table)) (spent old) (spent new)
  within_held_text m held holds asked calls =
      subst (λ (h : Option (List ℕ)). WithinCosts (pair_costs h h) (spent old) (spent new))
      (sym holds) (record {
        steps = omega (arith, steps);
        calls = omega (arith, calls);
        asked = omega (arith, asked);
      })

  -- the table was opened
  pub opened_alone : (contents : Contents)
      → MayOpen (table_format Chained) old.store.files table contents
      → new.store.asked ≤ old.store.asked + (16 + length contents.text)
      → new.store.calls ≤ old.store.calls + 5
      → SaysAll (checking_pair table table) (status_of (refusals.Back Magic))
      (refusal_line (refusals.Back Magic)) files input old new
  opened_alone contents may asked calls =
      let held = Some may.bytes in
      let at = holding old.store.files table held may.may in
      let text : held_text held ≡ contents.text = text_kept _ _ _ may.bytes
      (belongs (table_format Chained) may.bytes contents may.opens).file in
      let five = opened_calls (table_format Chained) may.bytes contents may.opens in
      record {
        found = found_where (checking_pair table table) at.files files input old (λ e. cc) at.agrees
            agrees;
        answer = refused (refusals.Back Magic) (
          (contents, ap (opened (table_format Chained)) at.holds ∙ may.opens),
          ap (opened (table_format Plain)) at.holds
              ∙ chained_is_not_plain may.bytes contents may.opens,
        )
            refl;
        costs = within_held_text at.files held at.holds
            (subst (λ (t : List ℕ). new.store.asked ≤ old.store.asked + (16 + length t)) (sym text)
            asked)
            (omega (arith, calls, five));
      }

  -- it was not
  pub stopped_alone : (fault : TableFault)
      → MayRefuse (table_format Chained) table old.store new.store fault
      → StopsWith (checking_pair table table) (stop_of_table fault) files input old new
  stopped_alone fault may =
      let at = holding old.store.files table may.held may.may in
      let found = found_where (checking_pair table table) at.files files input old (λ e. cc)
      at.agrees agrees in
      let costs = within_held_text at.files may.held at.holds may.asked may.calls in
      stops_by (checking_pair table table) files input old new
      (opened (table_format Chained) (at.files table)) fault
      (λ e. record { found = found; answer = refused (refusals.Table fault) e refl; costs = costs })
      (record { found = found; some = some_pair table table at.files; costs = costs })
      (subst (λ (h : Option (List ℕ)). Refuses (opened (table_format Chained) h) fault)
      (sym at.holds) may.refuses)

-- what the command replies then
module _ (table : List ℕ) (store now : StoreTold) (steps : ℕ) (quiet : StoreQuiet store now) where
  own_magic : (why : Refusal) → Refused (refusals.Back Magic) ≡ Refused why
      → OneOf (status_of why) (Success ∷ Wrong ∷ Table ∷ Missing ∷ [])
  own_magic why e =
      let same : refusals.Back Magic ≡ why = cc in
      subst (λ (w : Refusal). OneOf (status_of w) (Success ∷ Wrong ∷ Table ∷ Missing ∷ [])) same
      refl

  pub opened_reply : (contents : Contents)
      → MayOpen (table_format Chained) store.files table contents → StoreFine store now
      → now.asked ≤ store.asked + (16 + length contents.text) → now.calls ≤ store.calls + 5
      → Replies (checking_pair table table) (Err (Refused (refusals.Back Magic))) store now steps
      steps
  opened_reply contents may fine asked calls =
      stopped_reply ℕ (checking_pair table table) (Refused (refusals.Back Magic)) store now steps
      steps quiet (omega arith) refl refl own_magic fine
      (λ files left input out agrees. opened_alone table files left (world store input out steps)
      (world now input out steps) refl agrees contents may asked calls)

  pub refused_reply_alone : {T : Type 0} (fault : TableFault)
      → TableCauses {T = T} store.faults now.faults store.wants now.wants (Err fault)
      → MayRefuse (table_format Chained) table store now fault
      → Replies (checking_pair table table) (Err (stop_of_table fault)) store now steps steps
  refused_reply_alone {T} fault causes may =
      stopped_reply ℕ (checking_pair table table) (stop_of_table fault) store now steps steps quiet
      (omega arith) refl refl (stop_own fault (Success ∷ Wrong ∷ Table ∷ Missing ∷ []) refl refl)
      (table_cause T ℕ fault store now causes)
      (λ files left input out agrees. stopped_alone table files left (world store input out steps)
      (world now input out steps) refl agrees fault may)

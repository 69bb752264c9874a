-- That `verdict` has an answer, and only one.
use Rattle.std.proofs.Common.{◌≡◌, ◌<◌, ◌++◌, ◌∷◌, ◌∙◌, ◌==◌, [], ℕ, List, Bool, true, false, ap, arith, length, refl, subst, sym, Option, if◌then◌else◌}
use Rattle.std.specs.Prelude.{codes, map, Some}
use Rattle.std.proofs.lemmas.List.{length-map, length-append}
use Rattle.frz_board.specs.Boards.{Board}
use Rattle.frz_fen.specs.Writing.{fen_text}
use Rattle.frz_game.specs.Numbers.{is_member}
use Rattle.frz_store.specs.Files.{Files}
use Rattle.frz_answer.specs.declared.status.Status.TheVariants.{Success}
use Rattle.frz_answer.specs.Answers.{Answer, says, SomeAnswer}
use Rattle.frz_answer.specs.Lawful.{HasOneAnswer}
use Rattle.frz_answer.proofs.Lemmas.{behind_said}
use Rattle.frz_prelude.specs.Refusals.{refusal_line, status_of}
use Rattle.frz_prelude.specs.declared.refused.Refused.TheVariants as refusals
use Rattle.frz_prelude.proofs.Lemmas.{refusal_said}
use Rattle.frz_atlas.specs.Behind.{TableBytes, link_of}
use Rattle.frz_atlas.specs.Held.{all_held}
use Rattle.frz_atlas.specs.declared.fault.BackFault.{BackFault}
use Rattle.frz_atlas.specs.declared.fault.BackFault.TheVariants.{Refused, Wrong}
use Rattle.frz_atlas_prelude.specs.BackLines.{back_line, back_status}
use Rattle.frz_atlas_prelude.specs.Tables.{AreExactOver, AreTablesIn}
use Rattle.frz_atlas_prelude.proofs.Lemmas.{AllFound, all_exact, all_found, back_line_not_empty, never_refused, one_place, one_refused, one_tables}
use Rattle.frz_commands_premises.specs.declared.line.Line.{Line}
use Rattle.frz_commands_premises.specs.declared.line.Line.TheVariants.{Believed}
use Rattle.frz_commands_premises.specs.LineTexts.{line_text}
use Rattle.frz_commands_premises.specs.PremiseLines.{behind_lines, belief_among, text_link_of, links_in}
use Rattle.frz_commands_verdict.specs.declared.verdict.Verdict.{Verdict}
use Rattle.frz_commands_verdict.specs.Answers.{FindsTables, IsVerdictAt, answer_over, fault_line, found, own_line, refused}
use Rattle.frz_commands_verdict.specs.Finding.{names_over}
use Rattle.frz_commands_verdict.specs.Texts.{beliefs_text, lines_text, verdict_line, verdict_text}
use Rattle.frz_commands_verdict.specs.Verdicts.{verdict_at}
use Rattle.frz_commands_verdict.proofs.LastTable.{has_last, same_last}

-- each answer says something
fault_said : (own place : ℕ) (fault : BackFault) → fault_line own place fault ≡ [] → ⊥
fault_said own place fault e = by_place (place == own) fault e
  where
    by_place : (b : Bool) (f : BackFault)
        → (if b then own_line f else back_line place f) ≡ [] → ⊥
    by_place true (Refused f) e = refusal_said (refusals.Table f) e
    by_place true (Wrong wrong) e = cc
    by_place false f e = back_line_not_empty place f e

pub verdict_said : (p : Board) (verdict : Verdict) (own : ℕ) (lines : List Line)
    → verdict_text p verdict own lines ≡ [] → ⊥
verdict_said p verdict own lines e =
    behind_said (fen_text p ++ codes "\n") (verdict_line verdict ++ lines_text own lines)
    (λ f. behind_said (verdict_line verdict) (lines_text own lines)
    (λ g. behind_said (beliefs_text own 0 lines) (line_text (Believed (belief_among lines)))
    (λ h. cc) g) f) e

abbrev pub by_member : Bool → Board → Verdict → (own : ℕ) → List Line → Files → Answer
by_member b p verdict own lines files =
    if b then says Success (verdict_text p verdict own lines) files
    else says (status_of refusals.Outside) (refusal_line refusals.Outside) files

member_said : (b : Bool) (p : Board) (verdict : Verdict) (own : ℕ) (lines : List Line)
    (files : Files) → (by_member b p verdict own lines files).text ≡ [] → ⊥
member_said true p verdict own lines files e = verdict_said p verdict own lines e
member_said false p verdict own lines files e = refusal_said refusals.Outside e

module _ (table : List ℕ) (behind : List (List ℕ)) (p : Board) (m : Files) where
  abbrev helds : List (Option (List ℕ))
  helds = map m (names_over table behind)

  abbrev answer_by : List TableBytes → TableBytes → Answer
  answer_by before own =
      answer_over (link_of own) (map text_link_of (before ++ own ∷ [])) (length behind) p m

  -- there is an answer
  some_tables : (tables : List TableBytes) → helds ≡ all_held tables → 0 < length tables
  some_tables tables are =
      let held = length-map (names_over table behind) m in
      let names = length-append behind (table ∷ []) in
      let same = ap (length {A = Option (List ℕ)}) are in
      let many = length-map tables (λ (t : TableBytes). Some t.bytes) in
      omega (arith, held, names, same, many)

  over_exact : (tables : List TableBytes) → helds ≡ all_held tables → AreExactOver [] tables
      → SomeAnswer (λ a. IsVerdictAt table behind p m a)
  over_exact tables are h =
      let last = has_last tables (some_tables tables are) in
      let before = last.0 in
      let own = last.1 in
      record {
        a = answer_by before own;
        answer = found (record {
          before = before;
          own = own;
          all = subst (λ (l : List TableBytes). AreTablesIn helds l) last.2
              (record { there = are; exact = h });
          told = refl;
        });
        text = member_said (is_member own.contents.rules.groups p) p
            (verdict_at (links_in (map text_link_of (before ++ own ∷ []))) (link_of own) p)
            (length behind)
            (behind_lines [] (map text_link_of (before ++ own ∷ []))) m;
      }

  by_found : AllFound [] helds → SomeAnswer (λ a. IsVerdictAt table behind p m a)
  by_found (one_refused place fault h) = record {
    a = says (back_status fault) (fault_line (length behind) place fault) m;
    answer = refused (record { place = place; fault = fault; refused = h; told = refl });
    text = fault_said (length behind) place fault;
  }
  by_found (all_exact tables are h) = over_exact tables are h

  pub some_verdict : SomeAnswer (λ a. IsVerdictAt table behind p m a)
  some_verdict = by_found (all_found [] helds)

  -- and only one
  same_tables : (a b : Answer) → FindsTables table behind p m a → FindsTables table behind p m b
      → b ≡ a
  same_tables a b h k =
      let same = one_tables [] helds (h.before ++ h.own ∷ []) (k.before ++ k.own ∷ [])
      h.all.there k.all.there h.all.exact k.all.exact in
      let both = same_last k.before h.before k.own h.own same in
      k.told ∙ ap (λ (l : List TableBytes). answer_by l k.own) both.0
      ∙ ap (λ (t : TableBytes). answer_by h.before t) both.1 ∙ sym h.told

  one_of : (a b : Answer) → IsVerdictAt table behind p m a → IsVerdictAt table behind p m b → b ≡ a
  one_of a b (refused h) (refused k) =
      let same = one_place [] helds k.place h.place k.fault h.fault k.refused h.refused in
      k.told ∙ ap (λ (n : ℕ). says (back_status k.fault) (fault_line (length behind) n k.fault) m)
      same.0
      ∙ ap (λ (f : BackFault). says (back_status f) (fault_line (length behind) h.place f) m) same.1
      ∙ sym h.told
  one_of a b (refused h) (found k) =
      absurd (never_refused [] helds (k.before ++ k.own ∷ []) h.place h.fault k.all.there k.all.exact
      h.refused)
  one_of a b (found h) (refused k) =
      absurd (never_refused [] helds (h.before ++ h.own ∷ []) k.place k.fault h.all.there h.all.exact
      k.refused)
  one_of a b (found h) (found k) = same_tables a b h k

  pub one_verdict : HasOneAnswer (λ a. IsVerdictAt table behind p m a)
  one_verdict =
      (some_verdict.a, some_verdict.answer, λ b h. one_of some_verdict.a b some_verdict.answer h)

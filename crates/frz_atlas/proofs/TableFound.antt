-- What is found of one table under its name, over those before it.
use Rattle.std.proofs.Common.{◌≡◌, refl, ap, subst, ℕ, ◌+◌, ◌≤◌, List, Bool, Some, Ok, arith}
use Rattle.frz_board.specs.declared.man.Colour.{Colour}
use Rattle.frz_board.specs.declared.man.Colour.TheVariants.{White, Black}
use Rattle.frz_check.proofs.Lemmas.{plies_few, table_exact}
use Rattle.frz_check.specs.Wrong.{Wrong as WrongEntry}
use Rattle.frz_check.specs.EntryCodes.{of_side}
use Rattle.frz_rules.proofs.Lemmas.{text_sound}
use Rattle.frz_rules.specs.Text.{rules_of}
use Rattle.frz_sets.specs.Views.{RuleLines}
use Rattle.frz_store.specs.Told.{StoreTold}
use Rattle.frz_table.proofs.Lemmas.{belongs}
use Rattle.frz_table.specs.declared.fault.TableFault.{TableFault}
use Rattle.frz_table.specs.Opening.{Contents, contents_of, own_format}
use Rattle.frz_table.specs.Tables.{table_size}
use Rattle.frz_check.proofs.Lemmas.{same_verdict, verdict_on}
use Rattle.frz_check.specs.declared.verdict.Verdict.{Verdict}
use Rattle.frz_check.specs.declared.verdict.Verdict.TheVariants.{Exact, Wrong}
use Rattle.frz_check.specs.Kept.{kept_codes, opened_size}
use Rattle.frz_check.specs.Verdicts.{IsVerdict}
use Rattle.frz_backs.specs.Books.{Back}
use Rattle.frz_backs.specs.BackTable.{BackTable}
use Rattle.frz_backs.proofs.Lemmas.{over_small}
use Rattle.frz_backs.specs.Links.{Link, value_over}
use Rattle.frz_backs.specs.Loaded.{leans_as}
use Rattle.frz_atlas.specs.Behind.{IsJudgedOver, TableBytes, kind_of, leans}
use Rattle.frz_atlas.specs.Costs.{WithinOne}
use Rattle.frz_atlas.specs.Loading.{LoadsOne, RefusesOne}
use Rattle.frz_atlas.specs.Opening.{OpensOver, RefusesOver}
use Rattle.frz_atlas.specs.declared.fault.BackFault.TheVariants as one
use Rattle.frz_atlas.proofs.OwnKinds.{of_own}

-- it was not loaded
pub not_found : (before : List Back) (name : List ℕ) (old new : StoreTold) (steps : ℕ)
    (fault : TableFault) → RefusesOne name old new fault
    → RefusesOver before name old new steps steps (one.Refused fault)
not_found before name old new steps fault h = record {
  held = h.held;
  may = h.may;
  refuses = h.refuses;
  within = record { steps = omega arith; asked = h.within.asked; calls = h.within.calls };
}

-- the verdict on the lists that were loaded is one on the file
module _ (before : List Back) (name : List ℕ) (given : BackTable) (v : Verdict)
    (old new : StoreTold) (steps_before steps_now : ℕ) (h : LoadsOne name old new given)
    (steps : steps_now ≤ steps_before + table_size given.table)
    (verdict : IsVerdict given.table.rules
    (value_over (leans_as given.table.kind) given.table.rules before)
    (λ side. of_side side given.white.items given.black.items) v) where
  abbrev contents : Contents
  contents = contents_of given.table

  abbrev rules : RuleLines
  rules = given.table.rules

  abbrev table : TableBytes
  table = record { bytes = h.bytes; contents = contents }

  by_side : (side : Colour)
      → of_side side given.white.items given.black.items ≡ kept_codes contents h.bytes side
  by_side White = ap (λ (l : Link). l.back.white) h.keeps
  by_side Black = ap (λ (l : Link). l.back.black) h.keeps

  on_codes : IsVerdict rules (value_over (leans h.bytes) rules before)
      (kept_codes contents h.bytes) v
  on_codes =
      subst (λ (x : Bool). IsVerdict rules (value_over x rules before)
      (kept_codes contents h.bytes) v) (ap (λ (l : Link). l.leans) h.keeps)
      (same_verdict rules (value_over (leans_as given.table.kind) rules before)
      (λ side. of_side side given.white.items given.black.items) (kept_codes contents h.bytes) v
      by_side verdict)

  judged : IsJudgedOver before table v
  judged =
      let read : rules_of contents.text ≡ Ok rules =
      (belongs own_format h.bytes contents h.opens).read in
      let value = value_over (leans h.bytes) rules before in
      record {
        opens = h.opens;
        codes = on_codes;
        told = λ are. verdict_on (kind_of h.bytes) value contents h.bytes v are
            (table_exact rules value)
            (plies_few rules value (over_small (leans h.bytes) rules before
            (text_sound contents.text rules read)))
            read (of_own h.bytes contents h.opens) on_codes;
      }

  within : WithinOne (Some h.bytes) old new steps_before steps_now
  within = record {
    steps = (let is = ap opened_size h.opens in omega (arith, steps, is));
    asked = h.within.asked;
    calls = h.within.calls;
  }

  pub exact_found : v ≡ Exact → OpensOver before name given old new steps_before steps_now
  exact_found is = record {
    table = table;
    may = h.may;
    are_bytes = h.are_bytes;
    judged = subst (λ (w : Verdict). IsJudgedOver before table w) is judged;
    keeps = h.keeps;
    text = refl;
    within = within;
  }

  pub wrong_found : (wrong : WrongEntry) → v ≡ Wrong wrong
      → RefusesOver before name old new steps_before steps_now (one.Wrong wrong)
  wrong_found wrong is = record {
    held = Some h.bytes;
    may = h.may;
    refuses = record {
      table = table;
      there = refl;
      judged = subst (λ (w : Verdict). IsJudgedOver before table w) is judged;
    };
    within = within;
  }

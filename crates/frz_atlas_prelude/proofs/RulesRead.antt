-- What follows where the rules were read: files that hold them and the tables behind, and costs.
use Rattle.std.proofs.Common.{◌≡◌, sym, ap, subst, ℕ, ◌+◌, ◌≤◌, List, ◌∷◌, Option, Some, Result, Ok, false}
use Rattle.frz_rules.specs.Text.{rules_of}
use Rattle.frz_sets.specs.Views.{RuleLines}
use Rattle.frz_store.specs.Files.{Files}
use Rattle.frz_store.specs.Told.{StoreQuiet, StoreTold}
use Rattle.frz_table.specs.Possible.{MayHold}
use Rattle.frz_answer.specs.Jobs.{Costs, WithinCosts}
use Rattle.frz_answer.specs.World.{Spent}
use Rattle.frz_prelude.specs.RulesFiles.{IsTextRead, asked_of, or_fault, reads_of, rules_held}
use Rattle.frz_prelude.specs.declared.refused.Refused.{Refused as Refusal}
use Rattle.frz_prelude.specs.declared.rules_at.RulesText.{RulesText}
use Rattle.frz_atlas.specs.Held.{MayHoldAll}
use Rattle.frz_atlas_prelude.specs.Names.{has_twice}
use Rattle.frz_atlas_prelude.proofs.HeldNames.{may_hold_there}
use Rattle.frz_atlas_prelude.proofs.HeldTable.{Holds, apart_names_hold}

module _ (rules : List ℕ) (read : RulesText) (old mid : StoreTold)
    (text_read : IsTextRead rules (Ok read) old mid) where
  -- files that hold the rules, and what the names of the tables may hold
  pub holds_rules : (behind : List (List ℕ)) → has_twice (rules ∷ behind) ≡ false
      → StoreQuiet old mid → (helds : List (Option (List ℕ))) → MayHoldAll mid.files behind helds
      → Holds old.files rules behind (Some read.text.items) helds
  holds_rules behind apart quiet helds may =
      apart_names_hold old.files rules behind apart (Some read.text.items) helds
      (subst (λ (x : Option (List ℕ)). MayHold old.files rules x) text_read.due.0
      (may_hold_there old.files text_read.files rules text_read.agrees))
      (subst (λ (o : Option Files). MayHoldAll o behind helds) quiet.unwritten.files may)

  pub bytes_to_read : mid.asked ≤ old.asked + asked_of (Some read.text.items)
  bytes_to_read =
      subst (λ (x : Option (List ℕ)). mid.asked ≤ old.asked + asked_of x) text_read.due.0
      text_read.asked

  pub calls_to_read : mid.calls ≤ old.calls + (1 + reads_of (Some read.text.items))
  calls_to_read =
      subst (λ (x : Option (List ℕ)). mid.calls ≤ old.calls + (1 + reads_of x)) text_read.due.0
      text_read.calls

-- what is spent by a text, its rules and the tables behind is spent by the files that hold these
pub spent_by_files : (costs : Result RuleLines Refusal → Option (List ℕ)
    → List (Option (List ℕ)) → Costs) (held : Option (List ℕ)) (text : List ℕ)
    (lines : RuleLines) (there helds : List (Option (List ℕ))) → held ≡ Some text
    → rules_of text ≡ Ok lines → there ≡ helds → (before now : Spent)
    → WithinCosts (costs (Ok lines) (Some text) helds) before now
    → WithinCosts (costs (rules_held held) held there) before now
spent_by_files costs held text lines there helds here accepted others before now within =
    subst (λ (x : Option (List ℕ)). WithinCosts (costs (rules_held x) x there) before now)
    (sym here)
    (subst (λ (l : List (Option (List ℕ))). WithinCosts (costs (rules_held (Some text)) (Some text) l)
    before now) (sym others)
    (subst (λ (x : Result RuleLines Refusal). WithinCosts (costs x (Some text) helds) before now)
    (sym (ap or_fault accepted)) within))

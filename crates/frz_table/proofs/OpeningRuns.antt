-- Runs of opening a file whose text was read.
use Rattle.std.proofs.Common.{◌≡◌, sym, subst, ℕ, List, Result, Ok, Err}
use Rattle.frz_asks.proofs.Lemmas.{memory_on, no_memory, ok_on, run_none, stop_first}
use Rattle.frz_asks.specs.Runs.{End, came, halted, stop_end, Run}
use Rattle.frz_asks.specs.Trees.{gives, with_memory}
use Rattle.frz_rules.specs.declared.fault.RulesFault.{RulesFault}
use Rattle.frz_sets.specs.Views.{RuleLines}
use Rattle.frz_store.specs.Told.{StoreTold}
use Rattle.frz_store.specs.declared.outside.StoreFault.TheVariants as store
use Rattle.frz_table.specs.Asking.{Opened, texting, sizing, by_rules, by_text, opening}
use Rattle.frz_table.specs.Faults.{stop_of}
use Rattle.frz_table.specs.Layout.{Front}
use Rattle.frz_table.specs.Opening.{Contents, Format, front_of}
use Rattle.frz_table.specs.declared.fault.TableFault.{TableFault}
use Rattle.frz_table.specs.declared.fault.TableFault.TheVariants.{Rules}

-- the text was not read
pub no_text : (format : Format) (name : List ℕ) (begin : Front) (fault : TableFault) (old new : StoreTold)
    → begin ≡ front_of format → Run (texting name begin) (stop_end {A = Opened} (stop_of fault)) old new
    → Run (opening format name) (stop_end {A = Contents} (stop_of fault)) old new
unfolding opening
no_text format name begin fault old new is r =
    stop_first (stop_of fault) (by_text format name)
    (subst (λ (l : Front). Run (texting name l) (stop_end {A = Opened} (stop_of fault)) old new) is r)

module _ (format : Format) (name : List ℕ) (begin : Front) (o : Opened) (old mid : StoreTold)
    (is_front : begin ≡ front_of format) (first : Run (texting name begin) (came (Ok o)) old mid) where
  on : (read : Result RuleLines RulesFault) (end : End (Result Contents TableFault)) (new : StoreTold)
      → format.read o.text ≡ read → Run (by_rules format name o read) end mid new
      → Run (opening format name) end old new
  unfolding opening
  on read end new is r =
      ok_on (by_text format name)
      (subst (λ (l : Front). Run (texting name l) (came (Ok o)) old mid) is_front first)
      (subst (λ x. Run (by_rules format name o x) end mid new) (sym is) r)

  -- the format refuses the rules
  pub not_ruled : (fault : RulesFault) → format.read o.text ≡ Err fault
      → Run (opening format name) (came (Err (Rules fault))) old mid
  not_ruled fault is = on (Err fault) _ mid is (run_none _ _)

  module _ (rules : RuleLines) (is : format.read o.text ≡ Ok rules) where
    pub no_set : Run (opening format name) (halted store.NoMemory) old mid
    no_set = on (Ok rules) _ mid is (no_memory _ _)

    module _ (size : ℕ) (sized : size ≡ format.size rules) (new : StoreTold) where
      pub other_size : (fault : TableFault)
          → Run (sizing name o size) (stop_end {A = Unit {0}} (stop_of fault)) mid new
          → Run (opening format name) (stop_end {A = Contents} (stop_of fault)) old new
      other_size fault r =
          on (Ok rules) _ new is (memory_on (stop_first (stop_of fault) _
          (subst (λ n. Run (sizing name o n) (stop_end {A = Unit {0}} (stop_of fault)) mid new) sized r)))

      module _ (r : Run (sizing name o size) (came (Ok tt)) mid new) where
        all_read : {end : End (Result Contents TableFault)}
            → Run (with_memory (gives (Ok (record { text = o.text; rules = rules })))) end new new
            → Run (opening format name) end old new
        all_read {end = end} k =
            on (Ok rules) end new is (memory_on (ok_on _
            (subst (λ n. Run (sizing name o n) (came (Ok tt)) mid new) sized r) k))

        pub no_name : Run (opening format name) (halted store.NoMemory) old new
        no_name = all_read (no_memory _ _)

        pub opens : Run (opening format name) (came (Ok (record { text = o.text; rules = rules }))) old new
        opens = all_read (memory_on (run_none _ _))

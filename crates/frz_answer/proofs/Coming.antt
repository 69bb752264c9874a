-- Lines that were written and input that was taken before a
-- stage: nothing, a text, some bytes, and one behind the other.
use Rattle.std.proofs.Common.{◌≡◌, refl, sym, ap, ◌∙◌, ℕ, ◌≤◌, List, [], ◌++◌, take, drop, length, Option, Some, None, arith}
use Rattle.std.proofs.lemmas.List.{length-take-le}
use Rattle.std.specs.Prelude.{IfSome}
use Rattle.std.specs.Option.{option_map}
use Rattle.std.specs.Io.KnownBytes.{append_known}
use Rattle.frz_store.specs.Outside.{Took}
use Rattle.frz_store.specs.Told.{SourceTold, SinkTold}
use Rattle.frz_answer.specs.Texts.{TookText}
use Rattle.frz_answer.specs.World.{World, Quiet, Fine, Came}
use Rattle.frz_answer.proofs.Telling.{append_nothing, append_twice, drop_none, front_none, front_twice, left_twice}
use Rattle.frz_answer.proofs.Worlds.{later_on, later_same, fine_on, unwritten_on, unwritten_same}

-- calls and steps alone
pub quiet_came : (old new : World) → Quiet old new → Fine old new → Came [] [] old new
quiet_came old new quiet fine = record {
  later = quiet.later;
  fine = fine;
  store = quiet.store;
  took = front_none old.input.left;
  left = quiet.left ∙ drop_none old.input.left;
  taken = quiet.taken ∙ append_nothing old.out.taken;
}

-- a text that the sink took
pub text_came : (text : List ℕ) (old : World) (out : SinkTold) → TookText text old.out out
    → Came text [] old (record old { out = out })
text_came text old out took = record {
  later = (let same = later_same old in
      record {
        store = same.store;
        input = same.input;
        out = (let e = took.faults in omega (arith, e));
        steps = same.steps;
      });
  fine = record { store = record { faults = refl; wants = refl }; input = refl; out = took.faults };
  store = unwritten_same old.store;
  took = front_none old.input.left;
  left = drop_none old.input.left;
  taken = took.taken;
}

read_them : (buffer : List ℕ) (n : ℕ) (o : Option (List ℕ)) → length (take n buffer) ≡ n
    → IfSome o (Took buffer n)
    → IfSome o (λ left. take (length (take n buffer)) left ≡ take n buffer)
read_them buffer n None e h = tt
read_them buffer n (Some left) e h = ap (λ k. take k left) e ∙ sym h.front

-- bytes that a read put at the front of its buffer
pub bytes_came : (buffer : List ℕ) (n : ℕ) (old : World) (input : SourceTold) → n ≤ length buffer
    → IfSome old.input.left (Took buffer n)
    → input.left ≡ option_map (drop n) old.input.left → input.faults ≡ old.input.faults
    → Came [] (take n buffer) old (record old { input = input })
bytes_came buffer n old input within took left faults =
    let many : length (take n buffer) ≡ n = length-take-le n buffer within in record {
      later = (let same = later_same old in
          record {
            store = same.store;
            input = omega (arith, faults);
            out = same.out;
            steps = same.steps;
          });
      fine = record { store = record { faults = refl; wants = refl }; input = faults; out = refl };
      store = unwritten_same old.store;
      took = read_them buffer n old.input.left many took;
      left = left ∙ ap (λ k. option_map (drop k) old.input.left) (sym many);
      taken = append_nothing old.out.taken;
    }

-- one behind the other
pub came_on : (text more first next : List ℕ) (old mid new : World) → Came text first old mid
    → Came more next mid new → Came (text ++ more) (first ++ next) old new
came_on text more first next old mid new h k = record {
  later = later_on old mid new h.later k.later;
  fine = fine_on old mid new h.fine k.fine;
  store = unwritten_on old.store mid.store new.store h.store k.store;
  took = front_twice first next old.input.left mid.input.left h.left h.took k.took;
  left = left_twice first next old.input.left mid.input.left new.input.left h.left k.left;
  taken = k.taken ∙ ap (λ o. append_known o more) h.taken ∙ append_twice old.out.taken text more;
}

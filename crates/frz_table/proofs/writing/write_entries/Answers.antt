use Rattle.std.proofs.Common.{◌≡◌, refl, ap, subst, ◌*◌, ◌<◌, ◌++◌, List, ℕ, take, drop, length, arith, length-append}
use Rattle.std.specs.Option.{option_map}
use Rattle.std.proofs.lemmas.Result.{err_from_is_err_and}
use Rattle.frz_store.specs.Files.{grown}
use Rattle.frz_table.specs.Numbers.{number_bytes}
use Rattle.frz_table.proofs.NumberLists.{length-number_bytes}
use Rattle.frz_table.proofs.Appending.{none_written, more_written, part_written, front_put, is_cut, some_left}
use Rattle.frz_table.proofs.writing.write_entries.Given.{Over}
use Rattle.frz_table.proofs.writing.write_entries.Goals as goal
use Rattle.frz_table.proofs.writing.write_entries.Goals.{After-append}

-- the piece and more are what was left, and the front of the buffer is the piece
module _ (g : Over) (c : After-append g) where
  cut : c.loop-rest.rest.now ≡ c.split_at.result.0.now ++ c.split_at.result.1.now
  cut = is_cut c.min-here.result _ _ _ c.split_at.ensures.front c.split_at.ensures.back

  put : take (4 * c.min-here.result)
      (c.put_numbers.new.into ++ drop (4 * c.min-here.result) c.loop-rest.buffer)
      ≡ number_bytes c.split_at.result.0.now
  put =
      front_put (4 * c.min-here.result) _ _ _
      (omega (
        arith,
        ap length c.put_numbers.ensures,
        length-number_bytes c.split_at.result.0.now,
        c.split_at.ensures.front_len,
      )) c.put_numbers.ensures

pub returns-in_err-append-clause-failed_files : goal.returns-in_err-append-clause-failed_files
returns-in_err-append-clause-failed_files g c =
    let p = err_from_is_err_and c.from_residual.result c.from_residual.ensures.1 in
    let here = (goal.at.returns-in_err-append-clause-failed_files g c).After-append in
    rw p.1
    (part_written _ _ _ c.args.codes.now c.loop-rest.rest.now c.split_at.result.0.now
    c.split_at.result.1.now c.loop-rest.invariant.0 (cut g here)
    (subst (λ (l : List ℕ). (k : ℕ)
    × (g.S.Store.files c.append.new.self ≡ option_map
    (grown (g.S.Store.last c.loop-rest.store) (take k l)) (g.S.Store.files c.loop-rest.store)))
    (put g here) c.in_err-append.ensures.failed_files))

pub loop-rest-init : goal.loop-rest-init
loop-rest-init g c = (none_written _ _, λ _. refl)

pub loop-rest-preserved : goal.loop-rest-preserved
loop-rest-preserved g c =
    let here = (goal.at.loop-rest-preserved g c).After-append in
    let parts = cut g here in
    let left : 0 < length c.loop-rest.rest.now = some_left (length c.loop-rest.rest.now)
    c.is_empty.result c.is_empty.ensures c.loop-rest-test.true in
    let some : 0 < length c.split_at.result.0.now = omega
    (arith, c.split_at.ensures.front_len, c.min-here.ensures, left) in
    let few : length c.split_at.result.1.now < length c.args.codes.now =
    omega (
      arith,
      some,
      ap length parts,
      length-append c.split_at.result.0.now c.split_at.result.1.now,
      ap length c.loop-rest.invariant.0.parts,
      length-append c.loop-rest.invariant.0.written
          c.loop-rest.rest.now,
    ) in (
      more_written _ _ _ c.args.codes.now c.loop-rest.rest.now c.split_at.result.0.now
          c.split_at.result.1.now c.loop-rest.invariant.0 parts some
          (subst (λ (l : List ℕ). g.S.Store.files c.append.new.self ≡ option_map
          (grown (g.S.Store.last c.loop-rest.store) l) (g.S.Store.files c.loop-rest.store))
          (put g here) c.in_ok-append.ensures.files)
          c.append.ensures.last
          (omega (
            arith,
            c.append.ensures.room,
            ap length (put g here),
            length-number_bytes c.split_at.result.0.now,
          ))
          (omega (
            arith,
            c.requires,
            c.loop-rest.invariant.0.room,
            ap length c.loop-rest.invariant.0.parts,
            length-append c.loop-rest.invariant.0.written
                c.loop-rest.rest.now,
          ))
          c.append.ensures.asked c.append.ensures.wants c.in_ok-append.ensures.cause.fine
          (omega (arith, c.split_at.ensures.front_len, c.min-here.ensures))
          (omega (arith, c.append.ensures.calls.next)) c.append.ensures.calls.later,
      λ e. absurd (omega (arith, e, few)),
    )

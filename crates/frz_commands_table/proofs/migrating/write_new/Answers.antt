use Rattle.std.proofs.Common.{◌≡◌, refl, ap, ℕ, length, Result, Ok, Err, arith, rules}
use Rattle.std.proofs.lemmas.Grind.{common_steps}
use Rattle.std.proofs.lemmas.Result.{err_from_is_err_and}
use Rattle.frz_store.specs.declared.outside.StoreFault.{StoreFault}
use Rattle.frz_store.specs.Files.{put}
use Rattle.frz_store.specs.Told.{store_of}
use Rattle.frz_table.specs.declared.kind.FileKind.TheVariants.{Plain}
use Rattle.frz_table.specs.Layout.{file_of, magic_of}
use Rattle.frz_build.specs.Building.{writing_calls}
use Rattle.frz_answer.specs.declared.status.Status.TheVariants.{Success}
use Rattle.frz_answer.specs.Answers.{says}
use Rattle.frz_answer.proofs.Lemmas.{as_given}
use Rattle.frz_prelude.specs.Replies.{migrated_line}
use Rattle.frz_prelude.specs.declared.reply.Reply.TheVariants.{Migrated}
use Rattle.frz_prelude.proofs.Lemmas.{not_written_reply, wrote_reply}
use Rattle.frz_commands_table.specs.Migrating.{writing_new}
use Rattle.frz_commands_table.proofs.MigrateEnds.{written_as}
use Rattle.frz_commands_table.proofs.migrating.write_new.Goals as goal

pub returns : goal.returns
returns g c = λ steps.
    let moved = c.args.moved.now in
    let name = c.args.name.now in
    let text = moved.file.text in
    let size = length moved.white.items in
    let bytes = file_of (magic_of Plain) text size moved.white.items moved.black.items in
    let e = c.in_ok-write_file.ensures in
    let sized : c.len-size.result ≡ size = first_of (search rules, grind (arith, common_steps)) in
    let done : Result (Unit {0}) StoreFault = Ok tt in
    let written =
    written_as name _ text _ size _ moved.white.items _ moved.black.items done
    (store_of g.S.Store c.args.store.now) (store_of g.S.Store c.write_file.new.store)
    c.text-text.ensures sized c.deref.ensures.value c.deref-2.ensures.value e.written in
    wrote_reply (writing_new text size moved.white.items moved.black.items name)
    (Migrated c.len-size.result) name bytes _ _ steps steps refl (omega arith) refl refl refl
    written.0 written.1 e.room
    (λ files left input out agrees. record {
      found = as_given _ files left _ agrees;
      answer = ap (λ (n : ℕ). says Success (migrated_line n) (put files name bytes)) sized;
      costs = record {
        steps = omega arith;
        calls = (let a = e.calls in omega (arith, a, ap writing_calls sized));
        asked = (let a = e.asked in omega (arith, a));
      };
    })

pub returns-in_err-write_file : goal.returns-in_err-write_file
returns-in_err-write_file g c = λ steps.
    let p = err_from_is_err_and c.from_residual.result c.from_residual.ensures.1 in
    let moved = c.args.moved.now in
    let name = c.args.name.now in
    let text = moved.file.text in
    let size = length moved.white.items in
    let bytes = file_of (magic_of Plain) text size moved.white.items moved.black.items in
    let e = c.in_err-write_file.ensures in
    let fault = c.in_err-write_file.field-0.0 in
    let sized : c.len-size.result ≡ size = first_of (search rules, grind (arith, common_steps)) in
    let failed : Result (Unit {0}) StoreFault = Err fault in
    let written =
    written_as name _ text _ size _ moved.white.items _ moved.black.items failed
    (store_of g.S.Store c.args.store.now) (store_of g.S.Store c.write_file.new.store)
    c.text-text.ensures sized c.deref.ensures.value c.deref-2.ensures.value e.written in
    rw (p.1, p.2)
    (not_written_reply (Unit {0}) (writing_new text size moved.white.items moved.black.items name)
    fault name bytes _ _ steps steps (omega arith) refl refl refl written
    (λ files left input out agrees. record {
      found = as_given _ files left _ agrees;
      some = record {
        a = says Success (migrated_line size) (put files name bytes);
        answer = refl;
        text = λ e. cc;
      };
      given = refl;
      costs = record {
        steps = omega arith;
        calls = (let a = e.calls in omega (arith, a, ap writing_calls sized));
        asked = (let a = e.asked in omega (arith, a));
      };
    }))

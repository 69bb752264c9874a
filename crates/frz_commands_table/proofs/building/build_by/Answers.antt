use Rattle.std.proofs.Common.{refl, ap, ℕ, arith}
use Rattle.std.proofs.lemmas.Result.{err_from_is_err_and}
use Rattle.frz_store.specs.Files.{put}
use Rattle.frz_sets.specs.Sets.{size_of}
use Rattle.frz_answer.specs.declared.status.Status.TheVariants.{Success}
use Rattle.frz_answer.specs.Answers.{says}
use Rattle.frz_answer.proofs.Lemmas.{as_given}
use Rattle.frz_prelude.specs.Replies.{built_line}
use Rattle.frz_prelude.specs.declared.reply.Reply.TheVariants.{Built}
use Rattle.frz_prelude.proofs.Lemmas.{not_written_reply, wrote_reply}
use Rattle.frz_commands_table.specs.Building.{building_by}
use Rattle.frz_commands_table.proofs.BuildStages.{file_as}
use Rattle.frz_commands_table.proofs.building.build_by.Goals as goal

pub returns-in_err-size : goal.returns-in_err-size
returns-in_err-size g c =
    let p = err_from_is_err_and c.from_residual.result
    c.from_residual.ensures.1 in
    let read = c.args.read.now in
    let table = c.args.table.now in
    let e = c.in_err-size.ensures in
    let bytes = e.built.bytes in
    let one = file_as _ read.text.items read.rules _ bytes c.deref.ensures.value c.new.ensures
    e.built.one_file in
    rw (p.1, p.2)
    (not_written_reply ℕ (building_by read.text.items read.rules table) c.in_err-size.field-0.0
    table bytes _ _ _ _ e.later refl refl refl e.built.written
    (λ files left input out agrees. record {
      found = as_given _ files left _ agrees;
      some = record {
        a = says Success (built_line (size_of read.rules.groups)) (put files table bytes);
        answer = (bytes, one, refl);
        text = λ e. cc;
      };
      given = refl;
      costs = record {
        steps = (let a = e.cost in omega (arith, a));
        calls = (let a = e.calls in omega (arith, a));
        asked = (let a = e.asked in omega (arith, a));
      };
    }))

pub returns : goal.returns
returns g c =
    let read = c.args.read.now in
    let table = c.args.table.now in
    let e = c.in_ok-size.ensures in
    let bytes = e.built.bytes in
    let one = file_as _ read.text.items read.rules _ bytes c.deref.ensures.value c.new.ensures
    e.built.one_file in
    wrote_reply (building_by read.text.items read.rules table) (Built c.in_ok-size.size) table bytes
    _ _ _ _ refl e.later refl refl refl e.built.written.0 e.built.written.1 e.room
    (λ files left input out agrees. record {
      found = as_given _ files left _ agrees;
      answer =
          (bytes, one, ap (λ (n : ℕ). says Success (built_line n) (put files table bytes)) e.size);
      costs = record {
        steps = (let a = e.cost in omega (arith, a));
        calls = (let a = e.calls in omega (arith, a));
        asked = (let a = e.asked in omega (arith, a));
      };
    })

use Rattle.std.proofs.Common.{refl, ap, subst, ℕ, List, arith}
use Rattle.std.proofs.lemmas.Result.{err_from_is_err_and}
use Rattle.frz_store.specs.Files.{put}
use Rattle.frz_sets.specs.Sets.{size_of}
use Rattle.frz_answer.specs.declared.status.Status.TheVariants.{Success}
use Rattle.frz_answer.specs.Answers.{says}
use Rattle.frz_answer.proofs.Lemmas.{as_given}
use Rattle.frz_chain.specs.FileOn.{IsFileOn, loaded_back}
use Rattle.frz_prelude.specs.Replies.{chained_line}
use Rattle.frz_prelude.specs.declared.reply.Reply.TheVariants.{Chained}
use Rattle.frz_prelude.proofs.Lemmas.{not_written_reply, wrote_reply}
use Rattle.frz_commands_chain.specs.Chaining.{chaining_by}
use Rattle.frz_commands_chain.proofs.chaining.chain_by.Goals as goal

pub returns-in_err-size : goal.returns-in_err-size
returns-in_err-size g c =
    let p = err_from_is_err_and c.from_residual.result c.from_residual.ensures.1 in
    let both = c.args.both.now in
    let table = c.args.table.now in
    let back = loaded_back both.back in
    let e = c.in_err-size.ensures in
    let bytes = e.built.bytes in
    let one : IsFileOn both.read.text.items both.read.rules back bytes =
    subst (λ (t : List ℕ). IsFileOn t both.read.rules back bytes) c.deref.ensures.value
    e.built.one_file in
    rw (p.1, p.2)
    (not_written_reply ℕ (chaining_by both.read.text.items both.read.rules back table)
    c.in_err-size.field-0.0 table bytes _ _ _ _ e.later refl refl refl e.built.written
    (λ files left input out agrees. record {
      found = as_given _ files left _ agrees;
      some = record {
        a = says Success (chained_line (size_of both.read.rules.groups)) (put files table bytes);
        answer = (bytes, one, refl);
        text = λ e. cc;
      };
      given = refl;
      costs = record {
        steps = (let a = e.cost in omega (arith, a));
        calls = (let a = e.calls in omega (arith, a));
        asked = (let a = e.asked in omega (arith, a));
      };
    }))

pub returns : goal.returns
returns g c =
    let both = c.args.both.now in
    let table = c.args.table.now in
    let back = loaded_back both.back in
    let e = c.in_ok-size.ensures in
    let bytes = e.built.bytes in
    let one : IsFileOn both.read.text.items both.read.rules back bytes =
    subst (λ (t : List ℕ). IsFileOn t both.read.rules back bytes) c.deref.ensures.value
    e.built.one_file in
    wrote_reply (chaining_by both.read.text.items both.read.rules back table)
    (Chained c.in_ok-size.size) table bytes _ _ _ _ refl e.later refl refl refl e.built.written.0
    e.built.written.1 e.room
    (λ files left input out agrees. record {
      found = as_given _ files left _ agrees;
      answer = (
        bytes,
        one,
        ap (λ (n : ℕ). says Success (chained_line n) (put files table bytes))
            e.size,
      );
      costs = record {
        steps = (let a = e.cost in omega (arith, a));
        calls = (let a = e.calls in omega (arith, a));
        asked = (let a = e.asked in omega (arith, a));
      };
    })

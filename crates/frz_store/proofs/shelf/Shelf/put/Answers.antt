use Rattle.std.proofs.Common.{◌∙◌, sym, ap, List, ℕ, Option}
use Rattle.std.specs.Str.{bytes_eq}
use Rattle.std.proofs.lemmas.Result.{on_ok_weaker}
use Rattle.frz_store.specs.Files.{no_files, put}
use Rattle.frz_store.specs.Shelf.{stacked}
use Rattle.frz_store.specs.Shelf.{over}
use Rattle.frz_store.specs.declared.growing_file.GrowingFile.{GrowingFile}
use Rattle.frz_store.proofs.ShelfFiles.{put_open, put_rest}
use Rattle.frz_store.proofs.shelf.Shelf.put.Goals as goal

pub returns-then-eq-clause-files : goal.returns-then-eq-clause-files
returns-then-eq-clause-files c =
    put_open _ c.args.self.now.newest c.in-Some.file c.args.name.now _ _ c.in-Some.is
    (ap (λ (x : List ℕ). bytes_eq x c.args.name.now) (sym c.as_str.ensures.value)
    ∙ sym c.if-eq.ensures) c.in_ok-bytes.ensures.items

pub returns-else-eq-clause-files : goal.returns-else-eq-clause-files
returns-else-eq-clause-files c =
    on_ok_weaker c.add.result
    (λ e. ap (λ (x : Option GrowingFile). over (stacked no_files c.add.new.rest.items) x)
    (sym c.in-Some.is) ∙ put_rest _ _ c.args.self.now.newest c.in-Some.file c.args.name.now
    c.args.bytes.now c.in-Some.is
    (ap (λ (x : List ℕ). bytes_eq x c.args.name.now) (sym c.as_str.ensures.value)
    ∙ sym c.if-eq.ensures)
    (e ∙ ap (put _ c.args.name.now) c.in_ok-bytes.ensures.items))
    c.add.ensures.ok

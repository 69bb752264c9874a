use Rattle.std.proofs.Common.{◌≡◌, ap, ◌∙◌, ◌++◌, [], List, ℕ}
use Rattle.std.specs.Int.{w32, to_le_bytes}
use Rattle.std.specs.Option.{option_map}
use Rattle.std.proofs.lemmas.Result.{err_from_is_err_and, on_ok_weaker, on_err_weaker}
use Rattle.frz_store.specs.Files.{grown}
use Rattle.frz_table.specs.Layout.{magic_of}
use Rattle.frz_table.proofs.Appending.{part_first, part_after, piece_behind}
use Rattle.frz_table.proofs.Headers.{front, in_three, behind_text, size_last}
use Rattle.frz_table.proofs.writing.write_header_kind.Goals as goal

pub returns-in_err-append-clause-failed_files : goal.returns-in_err-append-clause-failed_files
returns-in_err-append-clause-failed_files g c =
    let p = err_from_is_err_and c.from_residual.result c.from_residual.ensures.1 in
    let f : c.front_of.result ≡ front (magic_of c.args.kind) c.args.text.now = c.front_of.ensures in
    rw p.1 (part_first _ c.front_of.result (c.args.text.now ++ to_le_bytes w32 c.args.size) _ _ _
    (ap (λ (l : List ℕ). l ++ (c.args.text.now ++ to_le_bytes w32 c.args.size)) f
    ∙ in_three (magic_of c.args.kind) c.args.text.now c.args.size)
    c.in_err-append.ensures.failed_files)

pub returns-in_err-append-2-clause-failed_files : goal.returns-in_err-append-2-clause-failed_files
returns-in_err-append-2-clause-failed_files g c =
    let p = err_from_is_err_and c.from_residual-in_err-append-2.result
    c.from_residual-in_err-append-2.ensures.1 in
    let f : c.front_of.result ≡ front (magic_of c.args.kind) c.args.text.now = c.front_of.ensures in
    rw p.1
    (part_after _ _ c.front_of.result c.args.text.now (to_le_bytes w32 c.args.size) _ _ _ _
    (ap (λ (l : List ℕ). l ++ (c.args.text.now ++ to_le_bytes w32 c.args.size)) f
    ∙ in_three (magic_of c.args.kind) c.args.text.now c.args.size)
    c.in_ok-append.ensures.files c.append.ensures.last c.in_err-append-2.ensures.failed_files)

pub returns-clause-files : goal.returns-clause-files
returns-clause-files g c =
    let f : c.front_of.result ≡ front (magic_of c.args.kind) c.args.text.now = c.front_of.ensures in
    on_ok_weaker c.append-3.result
    (λ e. piece_behind _ _ (c.front_of.result ++ c.args.text.now) c.to_le_bytes.result _ _ _
    (piece_behind _ _ c.front_of.result c.args.text.now _ _ _ c.in_ok-append.ensures.files
    c.append.ensures.last c.in_ok-append-2.ensures.files)
    (c.append-2.ensures.last ∙ c.append.ensures.last) e
    ∙ ap (λ (l : List ℕ). option_map (grown (g.S.Store.last c.args.store.now) l)
    (g.S.Store.files c.args.store.now))
    (ap (λ (l : List ℕ). (l ++ c.args.text.now) ++ c.to_le_bytes.result) f
    ∙ ap (λ (l : List ℕ). (front (magic_of c.args.kind) c.args.text.now ++ c.args.text.now) ++ l)
    c.to_le_bytes.ensures ∙ behind_text (magic_of c.args.kind) c.args.text.now c.args.size))
    c.append-3.ensures.files

pub returns-clause-failed_files : goal.returns-clause-failed_files
returns-clause-failed_files g c =
    let f : c.front_of.result ≡ front (magic_of c.args.kind) c.args.text.now = c.front_of.ensures in
    on_err_weaker c.append-3.result
    (λ e. part_after _ _ (c.front_of.result ++ c.args.text.now) c.to_le_bytes.result [] _ _ _ _
    (ap (λ (l : List ℕ). (l ++ c.args.text.now) ++ (c.to_le_bytes.result ++ [])) f
    ∙ ap (λ (l : List ℕ). (front (magic_of c.args.kind) c.args.text.now ++ c.args.text.now)
    ++ (l ++ [])) c.to_le_bytes.ensures ∙ size_last (magic_of c.args.kind) c.args.text.now
    c.args.size)
    (piece_behind _ _ c.front_of.result c.args.text.now _ _ _ c.in_ok-append.ensures.files
    c.append.ensures.last c.in_ok-append-2.ensures.files)
    (c.append-2.ensures.last ∙ c.append.ensures.last) e)
    c.append-3.ensures.failed_files

use Rattle.std.proofs.Common.{◌∙◌, ℕ, ap, arith, length, map, sym}
use Rattle.frz_rules.proofs.Lemmas.{text_sound}
use Rattle.frz_table.proofs.Lemmas.{read_short}
use Rattle.frz_atlas.specs.Loaded.{link_loaded}
use Rattle.frz_exit_lines.proofs.Lemmas.{as_many_lines}
use Rattle.frz_premises.specs.declared.basis.Basis.{Basis}
use Rattle.frz_premises.proofs.Lemmas.{many_bases}
use Rattle.frz_commands_premises.proofs.lines.add_text.Goals as goal

pub exit_line_numbers-requires : goal.exit_line_numbers-requires
exit_line_numbers-requires g c =
    let short = read_short c.args.text.now c.args.rules.now c.requires.read in omega (arith, short)

pub premises_of-requires-clause-sound : goal.premises_of-requires-clause-sound
premises_of-requires-clause-sound g c =
    text_sound c.args.text.now c.args.rules.now c.requires.read

pub add_lines-requires : goal.add_lines-requires
add_lines-requires g c =
    ap (length {A = ℕ}) (c.deref.ensures.value ∙ c.in_ok-numbers.ensures)
    ∙ as_many_lines c.args.text.now c.args.rules.now c.requires.read
    ∙ sym (many_bases c.args.leans c.args.rules.now (map link_loaded c.args.backs.now))
    ∙ sym (ap (length {A = Basis}) (c.deref-2.ensures.value ∙ c.in_ok-bases.ensures.bases))

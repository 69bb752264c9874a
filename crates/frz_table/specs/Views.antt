-- What a run tells of a text that was read, and of an open table.
use Rattle.frz_table.specs.Asking.{Opened}
use Rattle.frz_table.specs.declared.texts.Text.{Text}

abbrev pub opened_of : Text → Opened
opened_of t = record { file = t.file; text = t.text.items; rules = t.rules }

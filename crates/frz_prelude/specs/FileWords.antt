-- The words that stand for files in the lines that refuse them.
use Rattle.std.specs.Prelude.{List, ◌++◌, ℕ, codes, decimal}
use Rattle.frz_prelude.specs.declared.file_word.FileWord.{FileWord}
use Rattle.frz_prelude.specs.declared.file_word.FileWord.TheVariants.{Table, Back, BackAt}

abbrev pub file_word : FileWord → List ℕ
file_word Table = codes "table"
file_word Back = codes "back"
file_word (BackAt place) = codes "back " ++ decimal place

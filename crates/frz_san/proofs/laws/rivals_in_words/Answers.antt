use Rattle.frz_san.proofs.RivalsInWords.{any_in_words, file_in_words, rank_in_words}
use Rattle.frz_san.proofs.laws.rivals_in_words.Goals as goal

pub returns : goal.returns
returns c = record { any = any_in_words; file = file_in_words; rank = rank_in_words }

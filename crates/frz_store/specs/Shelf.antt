-- The files of a store in memory.
use Rattle.std.specs.Prelude.{ℕ, List, [], ◌∷◌, Option, Some, None}
use Rattle.std.specs.String.{string_bytes}
use Rattle.frz_store.specs.Files.{Files, no_files, put}
use Rattle.frz_store.specs.declared.named_file.NamedFile.{NamedFile}
use Rattle.frz_store.specs.declared.growing_file.GrowingFile.{GrowingFile}
use Rattle.frz_store.specs.declared.shelf.Shelf.{Shelf}

-- the files of `m` with those of the list put over them, a later one over an earlier one
abbrev pub stacked : Files → List NamedFile → Files
stacked m [] = m
stacked m (file ∷ files) = stacked (put m (string_bytes file.name) file.bytes.items) files

-- the files of `m` with the one that was created last put over them
abbrev pub over : Files → Option GrowingFile → Files
over m None = m
over m (Some file) = put m (string_bytes file.name) file.held.bytes.items

-- what each name holds
abbrev pub files_of : Shelf → Files
files_of shelf = over (stacked no_files shelf.rest.items) shelf.newest

abbrev pub name_of_newest : Option GrowingFile → Option (List ℕ)
name_of_newest None = None
name_of_newest (Some file) = Some (string_bytes file.name)

-- the name that was created last
abbrev pub last_of : Shelf → Option (List ℕ)
last_of shelf = name_of_newest shelf.newest

abbrev pub room_of_newest : Option GrowingFile → ℕ
room_of_newest None = 0
room_of_newest (Some file) = file.held.room

-- how many bytes may still be appended
abbrev pub room_of : Shelf → ℕ
room_of shelf = room_of_newest shelf.newest

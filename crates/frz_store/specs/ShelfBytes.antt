-- That the files of a store in memory hold bytes.
use Rattle.std.specs.Prelude.{ℕ, List, [], ◌∷◌, Bool, true, false, Option, Some, None, IfSome, if◌then◌else◌}
use Rattle.std.specs.Str.{bytes_eq}
use Rattle.std.specs.String.{string_bytes}
use Rattle.frz_store.specs.Bytes.{AreBytes, HoldsBytes}
use Rattle.frz_store.specs.Files.{Files, no_files, put}
use Rattle.frz_store.specs.Shelf.{files_of, over, stacked}
use Rattle.frz_store.specs.declared.growing_file.GrowingFile.{GrowingFile}
use Rattle.frz_store.specs.declared.named_file.NamedFile.{NamedFile}
use Rattle.frz_store.specs.declared.shelf.Shelf.{Shelf}

-- a choice of two holds bytes if both do
either : (b : Bool) (x y : Option (List ℕ)) → IfSome x AreBytes → IfSome y AreBytes
    → IfSome (if b then x else y) AreBytes
either true x y h k = h
either false x y h k = k

-- files that hold bytes still do so after bytes were put under a name
pub put_bytes : (m : Files) (name bytes : List ℕ) → HoldsBytes m → AreBytes bytes
    → HoldsBytes (put m name bytes)
unfolding put
put_bytes m name bytes h are q = either (bytes_eq name q) (Some bytes) (m q) are (h q)

stacked_bytes : (m : Files) (files : List NamedFile) → HoldsBytes m → HoldsBytes (stacked m files)
stacked_bytes m [] h = h
stacked_bytes m (file ∷ files) h =
    stacked_bytes (put m (string_bytes file.name) file.bytes.items) files
    (put_bytes m (string_bytes file.name) file.bytes.items h file.are_bytes)

over_bytes : (m : Files) (newest : Option GrowingFile) → HoldsBytes m → HoldsBytes (over m newest)
over_bytes m None h = h
over_bytes m (Some file) h =
    put_bytes m (string_bytes file.name) file.held.bytes.items h file.held.are_bytes

-- each file of a shelf holds bytes, as the type of each file says
pub shelf_bytes : (shelf : Shelf) → HoldsBytes (files_of shelf)
shelf_bytes shelf =
    over_bytes (stacked no_files shelf.rest.items) shelf.newest
    (stacked_bytes no_files shelf.rest.items (λ name. tt))

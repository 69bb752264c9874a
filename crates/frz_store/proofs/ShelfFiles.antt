-- What a shelf holds at a name, and after a file was put, created or grown.
use Rattle.std.proofs.Common.{◌≡◌, refl, sym, ap, ◌∙◌, ℕ, ◌-◌, ◌<◌, ◌≤◌, suc, List, [], ◌∷◌, ◌++◌, length, take, get_or, Option, Some, true, false, arith, append-nil}
use Rattle.std.proofs.lemmas.List.{nil_from_length}
use Rattle.std.specs.String.{string_bytes}
use Rattle.std.specs.Str.{bytes_eq}
use Rattle.std.proofs.Math.Seq.{take-suc, take-length}
use Rattle.frz_store.specs.Files.{Files, put, grown}
use Rattle.frz_store.proofs.PutLaws.{put-at, put-off, grown-put, put-put, put-swap}
use Rattle.std.proofs.lemmas.Slice.Eq.{bytes_eq-Decides}
use Rattle.frz_store.specs.Shelf.{stacked, over, name_of_newest}
use Rattle.frz_store.specs.declared.growing_file.GrowingFile.{GrowingFile}
use Rattle.frz_store.specs.declared.named_file.NamedFile.{NamedFile}

-- a file that is put behind the others
pub stacked-push : (m : Files) (hs : List NamedFile) (h : NamedFile)
    → stacked m (hs ++ h ∷ []) ≡ put (stacked m hs) (string_bytes h.name) h.bytes.items
stacked-push m [] h = refl
stacked-push m (x ∷ hs) h = stacked-push (put m (string_bytes x.name) x.bytes.items) hs h

-- a list is all but its last element, and then that one
last_split : (hs : List NamedFile) (h : NamedFile) → 1 ≤ length hs → h ≡ get_or hs (length hs - 1) h
    → take (length hs - 1) hs ++ h ∷ [] ≡ hs
last_split hs h some is =
    let here : length hs - 1 < length hs = omega arith in
    let next : suc (length hs - 1) ≡ length hs = omega arith in
    ap (λ (x : NamedFile). take (length hs - 1) hs ++ x ∷ []) is
    ∙ sym (take-suc hs (length hs - 1) h here) ∙ ap (λ n. take n hs) next ∙ take-length hs

-- the last file lies over the others
stacked-last : (m : Files) (hs : List NamedFile) (h : NamedFile) → 1 ≤ length hs
    → h ≡ get_or hs (length hs - 1) h
    → stacked m hs ≡ put (stacked m (take (length hs - 1) hs)) (string_bytes h.name) h.bytes.items
stacked-last m hs h some is =
    sym (ap (stacked m) (last_split hs h some is)) ∙ stacked-push m (take (length hs - 1) hs) h

-- a look-up that ends at the last file
pub last_here : (m : Files) (hs : List NamedFile) (h : NamedFile) (q : List ℕ) → 1 ≤ length hs
    → h ≡ get_or hs (length hs - 1) h → bytes_eq (string_bytes h.name) q ≡ true
    → stacked m hs q ≡ Some h.bytes.items
last_here m hs h q some is e = ap (λ (f : Files). f q) (stacked-last m hs h some is)
    ∙ put-at (stacked m (take (length hs - 1) hs)) (string_bytes h.name) h.bytes.items q e

-- a look-up that goes on below the last file
pub last_else : (m : Files) (hs : List NamedFile) (h : NamedFile) (q : List ℕ) → 1 ≤ length hs
    → h ≡ get_or hs (length hs - 1) h → bytes_eq (string_bytes h.name) q ≡ false
    → stacked m hs q ≡ stacked m (take (length hs - 1) hs) q
last_else m hs h q some is e = ap (λ (f : Files). f q) (stacked-last m hs h some is)
    ∙ put-off (stacked m (take (length hs - 1) hs)) (string_bytes h.name) h.bytes.items q e

-- a look-up that ends at the file that was created last
pub open_here : (m : Files) (o : Option GrowingFile) (f : GrowingFile) (q : List ℕ) → o ≡ Some f
    → bytes_eq (string_bytes f.name) q ≡ true → over m o q ≡ Some f.held.bytes.items
open_here m o f q is e = ap (λ (x : Option GrowingFile). over m x q) is
    ∙ put-at m (string_bytes f.name) f.held.bytes.items q e

-- a look-up that goes on below it
pub open_else : (m : Files) (o : Option GrowingFile) (f : GrowingFile) (q : List ℕ) → o ≡ Some f
    → bytes_eq (string_bytes f.name) q ≡ false → over m o q ≡ m q
open_else m o f q is e = ap (λ (x : Option GrowingFile). over m x q) is
    ∙ put-off m (string_bytes f.name) f.held.bytes.items q e

-- the file that was created last has grown by a piece
pub open_grown : (m : Files) (o : Option GrowingFile) (f : GrowingFile) (bytes piece : List ℕ)
    → o ≡ Some f → bytes ≡ f.held.bytes.items ++ piece
    → put m (string_bytes f.name) bytes ≡ grown (name_of_newest o) piece (over m o)
open_grown m o f bytes piece is b =
    ap (put m (string_bytes f.name)) b
    ∙ sym (grown-put m (string_bytes f.name) f.held.bytes.items piece)
    ∙ ap (λ (x : Option GrowingFile). grown (name_of_newest x) piece (over m x)) (sym is)

-- an empty piece changes no file
pub open_same : (m : Files) (o : Option GrowingFile) (f : GrowingFile) (bytes piece : List ℕ)
    → o ≡ Some f → bytes ≡ f.held.bytes.items ++ piece → length piece ≡ 0
    → put m (string_bytes f.name) bytes ≡ over m o
open_same m o f bytes piece is b e =
    ap (put m (string_bytes f.name))
    (b ∙ ap (λ (x : List ℕ). f.held.bytes.items ++ x) (nil_from_length piece e)
    ∙ append-nil f.held.bytes.items) ∙ ap (over m) (sym is)

-- bytes put under the name that was created last
pub put_open : (m : Files) (o : Option GrowingFile) (f : GrowingFile) (n bytes new : List ℕ)
    → o ≡ Some f → bytes_eq (string_bytes f.name) n ≡ true → new ≡ bytes
    → put m (string_bytes f.name) new ≡ put (over m o) n bytes
put_open m o f n bytes new is e b =
    let same : string_bytes f.name ≡ n = (bytes_eq-Decides (string_bytes f.name) n).0 e in
    ap (λ (k : List ℕ). put m k new) same ∙ ap (put m n) b
    ∙ sym (put-put m n f.held.bytes.items bytes)
    ∙ ap (λ (k : List ℕ). put (put m k f.held.bytes.items) n bytes) (sym same)
    ∙ ap (λ (x : Option GrowingFile). put (over m x) n bytes) (sym is)

-- bytes put under another name
pub put_rest : (m new : Files) (o : Option GrowingFile) (f : GrowingFile) (n v : List ℕ)
    → o ≡ Some f → bytes_eq (string_bytes f.name) n ≡ false → new ≡ put m n v
    → over new o ≡ put (over m o) n v
put_rest m new o f n v is e b =
    let differs : n ≡ string_bytes f.name → ⊥ = λ h. let t : bytes_eq (string_bytes f.name) n
    ≡ true = (bytes_eq-Decides (string_bytes f.name) n).1 (sym h) in cc in
    ap (over new) is ∙ ap (λ (x : Files). put x (string_bytes f.name) f.held.bytes.items) b
    ∙ put-swap m n (string_bytes f.name) v f.held.bytes.items differs
    ∙ ap (λ (x : Option GrowingFile). put (over m x) n v) (sym is)

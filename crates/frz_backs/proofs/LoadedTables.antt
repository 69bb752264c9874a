-- Loaded tables, with the rules and the kind of each and without.
use Rattle.std.proofs.Common.{◌≡◌, List, map}
use Rattle.std.proofs.lemmas.Simd.{map-map}
use Rattle.frz_backs.specs.FileOn.{loaded_back}
use Rattle.frz_chain.specs.declared.back.BackTable.{BackTable}
use Rattle.frz_backs.specs.Links.{Link, backs_of}
use Rattle.frz_backs.specs.Loaded.{link_loaded}

pub loaded_backs : (tables : List BackTable)
    → backs_of (map link_loaded tables) ≡ map loaded_back tables
loaded_backs tables = map-map (λ (link : Link). link.back) link_loaded tables

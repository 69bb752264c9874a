use Rattle.std.proofs.Common.{◌≡◌, ◌∙◌, refl, ap, ℕ, Bool, false, Option, Some, None}
use Rattle.frz_sets.specs.declared.exit.Value.{Value}
use Rattle.frz_index.specs.Membership.{number_of}
use Rattle.frz_backs.specs.Codes.{codes_at, codes_of}
use Rattle.frz_backs.specs.Links.{Link}
use Rattle.frz_backs.specs.Loaded.{link_loaded}
use Rattle.frz_premises.specs.Saying.{codes_say, says_as_much, says_at}
use Rattle.frz_premises.proofs.saying.says_as_much.Goals as goal

-- what the two codes of the table say, and nothing where it has none
abbrev says_by : Value → Link → Option (ℕ × ℕ) → Bool
says_by value link None = false
says_by value link (Some (white, black)) = codes_say link white black value

said_by_codes : (value : Value) (link : Link) (o : Option ℕ) →
    says_by value link (codes_at link.back o) ≡ says_at value link o
said_by_codes value link None = refl
said_by_codes value link (Some i) = refl

pub returns-in-Some : goal.returns-in-Some
unfolding says_as_much
returns-in-Some c =
    let link = link_loaded c.args.back.now in
    let white = c.in-Some.white in
    let black = c.in-Some.black in
    let has : Some (white, black) ≡ codes_of link.back c.args.q.now = c.in-Some.ensures in
    c.codes_say.ensures ∙ (ap (says_by c.args.value link) has
    ∙ said_by_codes c.args.value link (number_of link.back.groups c.args.q.now))

pub returns-in-None : goal.returns-in-None
unfolding says_as_much
returns-in-None c =
    let link = link_loaded c.args.back.now in
    let lacks : None ≡ codes_of link.back c.args.q.now = c.in-None.ensures in
    ap (says_by c.args.value link) lacks
    ∙ said_by_codes c.args.value link (number_of link.back.groups c.args.q.now)

-- The pairs at which steps of men lead to pairs of planes, or to others, arm by arm.
use Rattle.std.proofs.Common.{◌≡◌, ℕ, ◌+◌, ◌<◌, ◌≤◌, Bool, true, false, not, ◌||◌, Some, List, [], length, ap, refl, sym, ◌∙◌, subst, arith, inl, inr}
use Rattle.std.specs.Prelude.{◌↔◌}
use Rattle.std.specs.List.{slice_get, slice_index_or}
use Rattle.std.proofs.lemmas.Bool.{cases_lt, or_cases, or_left, or_right}
use Rattle.std.proofs.lemmas.Option.{same_Some, slice_get_within}
use Rattle.frz_board.specs.Boards.{Board, holds}
use Rattle.frz_board.specs.Moving.{IsStep, Step}
use Rattle.frz_fide.specs.Legal.{after, is_legal}
use Rattle.frz_sets.specs.Sound.{IsSound}
use Rattle.frz_sets.specs.Views.{RuleLines}
use Rattle.frz_exits.specs.Forbidding.{is_free}
use Rattle.frz_configurations.specs.Configurations.{configuration_of}
use Rattle.frz_king_planes.specs.Kings.{with_kings}
use Rattle.frz_planes.specs.Planes.{IsPlaneOf, has_pair}
use Rattle.frz_kingless.specs.Boards.{AreLive, IsBoardOf}
use Rattle.frz_pair_moves.proofs.Lemmas.{goes_from, legal_man}
use Rattle.frz_plane_arms.specs.Arms.{MakesMember, is_led}
use Rattle.frz_plane_arms.specs.MenArms.{AreAllLive, AreArms, ManLeads}
use Rattle.frz_plane_arms.specs.declared.men.ManArm.{ManArm}
use Rattle.frz_plane_arms.proofs.FreeMen.{forbidden_same}
use Rattle.frz_plane_arms.proofs.LeadingPairs.{led_back, led_forth}
use Rattle.frz_plane_arms.proofs.Standing.{made, man_lands, man_stands}

counts_free : (free only_free : Bool) → (free || not only_free) ≡ true → only_free ≡ true →
    free ≡ true
counts_free true only_free h e = refl
counts_free false true h e = absurd cc
counts_free false false h e = absurd cc

free_counts : (free only_free : Bool) → (only_free ≡ true → free ≡ true) →
    (free || not only_free) ≡ true
free_counts true only_free h = refl
free_counts false true h = let e : false ≡ true = h refl in absurd cc
free_counts false false h = refl

module _ (arms : List ManArm) (only_free : Bool) (live : List ℕ) (lives planes : List (List ℕ))
    (into : Bool) where
  abbrev leads : ManArm → (a b : ℕ) → Bool
  leads arm a b =
      is_led arm.step live (slice_index_or lives arm.target []) (slice_index_or planes arm.target [])
      into a b

  -- one of the first n arms counts and leads there
  pub record Led (n a b : ℕ) : Type 0 where
    pub place : ℕ
    pub low : place < n
    pub arm : ManArm
    pub there : slice_get arms place ≡ Some arm
    pub counts : (arm.free || not only_free) ≡ true
    pub step : IsStep arm.step
    pub leads_there : leads arm a b ≡ true

  -- the plane has the pairs at which one of the first n arms counts and leads, where these are steps
  pub record AreLed (n : ℕ) (plane : List ℕ) : Type 0 where
    pub forth : (a b : ℕ) → a < 64 → b < 64 → has_pair plane a b ≡ true → Led n a b
    pub back : (a b : ℕ) → a < 64 → b < 64 → Led n a b → has_pair plane a b ≡ true

  pub none_led : (plane : List ℕ) → IsPlaneOf plane (λ a b. false) → AreLed 0 plane
  none_led plane none = record {
    forth = λ a b la lb h. absurd (let e = none a b la lb in cc);
    back = λ a b la lb h. let low = h.low in absurd (omega arith);
  }

  later : (n a b : ℕ) → Led n a b → Led (n + 1) a b
  later n a b w =
      let low = w.low in
      record {
        place = w.place;
        low = omega arith;
        arm = w.arm;
        there = w.there;
        counts = w.counts;
        step = w.step;
        leads_there = w.leads_there;
      }

  earlier : (n a b : ℕ) (w : Led (n + 1) a b) → w.place < n → Led n a b
  earlier n a b w less = record {
    place = w.place;
    low = less;
    arm = w.arm;
    there = w.there;
    counts = w.counts;
    step = w.step;
    leads_there = w.leads_there;
  }

  same_arm : (n a b : ℕ) (arm : ManArm) (w : Led (n + 1) a b) → slice_get arms n ≡ Some arm →
      n ≤ w.place → arm ≡ w.arm
  same_arm n a b arm w there more =
      let low = w.low in
      let same : w.place ≡ n = omega arith in
      same_Some arm w.arm (sym there ∙ ap (slice_get arms) (sym same) ∙ w.there)

  -- an arm that does not count
  pub passed_by : (n : ℕ) (arm : ManArm) (plane : List ℕ) → AreLed n plane →
      slice_get arms n ≡ Some arm → (arm.free || not only_free) ≡ false → AreLed (n + 1) plane
  passed_by n arm plane h there off = record {
    forth = λ a b la lb k. later n a b (h.forth a b la lb k);
    back = λ a b la lb w.
        elim (cases_lt w.place n) [
          | inl less ↦ h.back a b la lb (earlier n a b w less)
          | inr more ↦ absurd (let on : (arm.free || not only_free) ≡ true = ap (λ (x : ManArm).
              x.free || not only_free) (same_arm n a b arm w there more) ∙ w.counts in cc)
        ];
  }

  pub led_more : (n : ℕ) (arm : ManArm) (plane one then : List ℕ) → AreLed n plane →
      slice_get arms n ≡ Some arm → (arm.free || not only_free) ≡ true → IsStep arm.step →
      IsPlaneOf one (leads arm) →
      IsPlaneOf then (λ a b. has_pair plane a b || has_pair one a b) → AreLed (n + 1) then
  led_more n arm plane one then h there on step led union = record {
    forth = λ a b la lb k.
        elim (or_cases (has_pair plane a b) (has_pair one a b) (sym (union a b la lb) ∙ k)) [
          | inl old ↦ later n a b (h.forth a b la lb old)
          | inr new ↦ record {
            place = n;
            low = omega arith;
            arm = arm;
            there = there;
            counts = on;
            step = step;
            leads_there = sym (led a b la lb) ∙ new;
          }
        ];
    back = λ a b la lb w.
        union a b la lb
        ∙ elim (cases_lt w.place n) [
          | inl less ↦ or_left (has_pair plane a b) (has_pair one a b)
              (h.back a b la lb (earlier n a b w less))
          | inr more ↦ or_right (has_pair plane a b) (has_pair one a b)
              (led a b la lb
              ∙ ap (λ (x : ManArm). leads x a b) (same_arm n a b arm w there more)
              ∙ w.leads_there)
        ];
  }

  -- what all arms lead to, in chess
  module _ (n : ℕ) (plane : List ℕ) (end : length arms ≤ n) (h : AreLed n plane) (r : RuleLines)
      (p : Board) (c : ℕ) (sound : IsSound r) (board : IsBoardOf r.groups c p)
      (are : AreLive r.groups c live) (all : AreArms r p arms) (lively : AreAllLive r.groups lives)
      (a b : ℕ) (la : a < 64) (lb : b < 64) where
    -- the kings leave the step as free as it is without them
    free_same : (m : Step) → IsStep m → MakesMember r.groups p a b →
        holds p p.turn m.from ≡ true → is_legal (with_kings p a b) m ≡ true →
        is_free r p.turn (with_kings p a b) m ≡ is_free r p.turn p m
    free_same m step here own legal =
        let goes = legal_man p m a b step la lb (made r p a b here) own legal in
        ap not (forbidden_same p m a b board.fits.size la lb here.free own goes.1 r.forbids p.turn)

    led_forth_all : has_pair plane a b ≡ true →
        MakesMember r.groups p a b × ManLeads r only_free p planes into a b
    led_forth_all k =
        let w = h.forth a b la lb k in
        let is = all.each w.place w.arm w.there in
        let x = led_forth r p w.arm.step c w.arm.target live
        (slice_index_or lives w.arm.target []) sound board are is.can is.board
        (lively w.arm.target is.inside) w.step (slice_index_or planes w.arm.target []) into a b la lb
        w.leads_there in
        let own = goes_from p w.arm.step is.can in (
          x.0,
          record {
            step = w.arm.step;
            is_step = w.step;
            own = own;
            legal = x.1;
            free = λ e. free_same w.arm.step w.step x.0 own x.1 ∙ sym is.free
                ∙ counts_free w.arm.free only_free w.counts e;
            target = w.arm.target;
            board = is.board;
            there = x.2;
          },
        )

    led_back_all : MakesMember r.groups p a b × ManLeads r only_free p planes into a b →
        has_pair plane a b ≡ true
    led_back_all k =
        let w = k.1 in
        let goes = legal_man p w.step a b w.is_step la lb (made r p a b k.0) w.own w.legal in
        let next = man_lands r p w.step a b k.0 w.is_step w.own w.legal
        ((man_stands r p w.step a b sound k.0 w.is_step w.own w.legal).member.1 (w.target, w.board)) in
        let has = all.all w.step a b w.is_step goes.0 next in
        let is = all.each has.place has.arm has.there in
        let step : IsStep has.arm.step = subst IsStep (sym has.step) w.is_step in
        let target : w.target ≡ has.arm.target = sym w.board.configuration
        ∙ ap (λ (m : Step). configuration_of r.groups (after p m)) (sym has.step)
        ∙ is.board.configuration in
        let low = slice_get_within arms has.place has.arm has.there in
        h.back a b la lb (record {
          place = has.place;
          low = omega arith;
          arm = has.arm;
          there = has.there;
          counts = free_counts has.arm.free only_free
              (λ e. is.free ∙ ap (is_free r p.turn p) has.step
              ∙ sym (free_same w.step w.is_step k.0 w.own w.legal) ∙ w.free e);
          step = step;
          leads_there = led_back r p has.arm.step c has.arm.target live
              (slice_index_or lives has.arm.target []) sound board are is.can is.board
              (lively has.arm.target is.inside) step (slice_index_or planes has.arm.target []) into
              a b la lb (
                k.0,
                ap (is_legal (with_kings p a b)) has.step ∙ w.legal,
                ap (λ t. has_pair (slice_index_or planes t []) a b) (sym target) ∙ w.there,
              );
        })

    pub led_at_last : (has_pair plane a b ≡ true)
        ↔ (MakesMember r.groups p a b × ManLeads r only_free p planes into a b)
    led_at_last = (led_forth_all, led_back_all)

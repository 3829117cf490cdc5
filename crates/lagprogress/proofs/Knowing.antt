-- What the ends of a cable know of each other, and what a round leaves of that.
use Rattle.lagprogress.proofs.Common.{Bool, arith, false, inl, inr, refl, subst, sym, true, ℕ, ◌+◌, ◌-◌, ◌∙◌, ◌≡◌, ◌≤◌, ◌⊎◌, nat_tests, Lacpdu, One}
use Rattle.lagprogress.proofs.Common.{Side, peer, Machines, periodic_rows, AtRest, Algorithms, LinkState, WorldState, half, port_at, IsTimed}
use Rattle.lagprogress.proofs.Common.{timeout_time, OfEach, AtPort, Sounds, silence_of, sounds_first, OldArrive, EndKnows, Knows, most_ticks}
use Rattle.lagprogress.proofs.Claims.{IsNamed, Wakeful, can_wake}
use Rattle.lagprogress.proofs.EndFacts.{CanSound, IsEnd, Learnt, activity, calm, less_known, short_timeout, wait_of}
use Rattle.lagprogress.proofs.HostRound.{two, two_other, two_there}
use Rattle.lagprogress.proofs.Linked.{EndIs, Fits, Link, each_map, each_side, end_here, of_end, other_ports, peer_twice, with_ports}
use Rattle.lagprogress.proofs.OneRound.{Nothing, ticked}
use Rattle.lagprogress.proofs.Quieting.{PlayedBeside}
use Rattle.lagprogress.proofs.Climbing.{PartnerInSync}
use Rattle.lagprogress.proofs.LateHearing.{AheadIn, Said, ticks_near, ticks_stamp, ticks_take, ticks_tell, HearsIn}
use Rattle.lagprogress.proofs.SeveralTicks.{TicksBeside, no_less, once, ticked_by, ticks_keep}
use Rattle.lagprogress.proofs.Stamps.{Stamped, Took}

pub two_less : (s : Side) (c : Side → ℕ) (a b : ℕ) → a ≤ c s → b ≤ c (peer s) → (u : Side) → two s a b u ≤ c u
two_less s c a b l m u = grind (arith, nat_tests)

pub awake_peer : (w : Side → Lacpdu) → ((s : Side) → (activity (w s) ≡ true) ⊎ (activity (w (peer s)) ≡ true)) → (s : Side)
    → (activity (w (peer s)) ≡ true) ⊎ (activity (w s) ≡ true)
awake_peer w awake s = elim (awake s) [ inl a ↦ inr a | inr a ↦ inl a ]

one_more : (most n : ℕ) → 1 ≤ most → n + (most + most) - 1 + 1 - (most + most) ≡ n
one_more most n l = omega (arith, l)

-- an end is known for longer than it takes until it is heard again, by the slack; or the rounds are few, and so many ticks are to spare
abbrev pub Longer : (slack spare most n next known : ℕ) → Type 0
Longer slack spare most n next known = (next + slack ≤ known) ⊎ ((n + next ≤ most) × (next + 1 ≤ known + spare))

module _ (at : Side → ℕ) (w : Side → Lacpdu) where
  -- the port at an end has Short Timeout recorded, once it knows its partner
  abbrev pub mode : Side → Bool
  mode s = short_timeout (w (peer s))

  -- what is left of current_while after the round in which an LACPDU came, at the least: it may have come before the tick
  abbrev pub wait : Side → ℕ
  wait s = wait_of (w s) - 1

  abbrev pub AtIt : Side → (Machines → Type 0) → WorldState → Type 0
  AtIt s P j = OfEach (AtPort (at s) P) (half s j).state.system_ports

  pub lower : (c b : Side → ℕ) (x : Side) (Y : Machines → Type 0) (j : WorldState) → ((s : Side) → b s ≤ c s) → Link 1 at w c x Y j → Link 1 at w b x Y j
  lower c b x Y j less l = other_ports l (λ s p rest timed a. (less_known 1 (w s) (w (peer s)) (c s) (b s) p (less s) a.0, a.1))

  pub beside : (d : ℕ) (c : Side → ℕ) (x : Side) (Y : Machines → Type 0) (j : WorldState) → Link d at w c x Y j → AtIt x Y j
  beside d c x Y j l = of_end l x Y (λ p rest timed a. a.1 refl)

  -- of the end of s alone it is kept that it knows its partner, for so many ticks more, as what stands beside it says
  pub known_by : (m d : ℕ) (c : Side → ℕ) (s : Side) (Y : Machines → Type 0) (j : WorldState)
      → ((p : Machines) → IsEnd d (w s) (w (peer s)) (c s) p → Y p → IsEnd d (w s) (w (peer s)) m p) → Link d at w c s Y j → Link d at w (two s m 0) s Nothing j
  known_by m d c s Y j known l = let P : Side → Machines → Type 0 = EndIs d w c s Y in
      let Q : Side → Machines → Type 0 = EndIs d w (two s m 0) s Nothing in
      other_ports l (each_side (λ u. (p : Machines) → AtRest periodic_rows p → IsTimed p → P u p → Q u p) s
      (λ p rest timed a. (subst (λ n. IsEnd d (w s) (w (peer s)) n p) (sym (two_there s m 0)) (known p a.0 (a.1 refl)), λ f. tt))
      (λ p rest timed a. (
        less_known d (w (peer s)) (w (peer (peer s))) (c (peer s)) (two s m 0 (peer s)) p
            (subst (λ n. n ≤ c (peer s)) (sym (two_other s m 0)) (omega arith)) a.0,
        λ f. tt,
      )))

  -- it has just learnt it
  pub learns_for : (m d : ℕ) (c : Side → ℕ) (s : Side) (j : WorldState) → Link d at w c s (Learnt d (w (peer s)) m) j → Link d at w (two s m 0) s Nothing j
  learns_for m d c s j l = known_by m d c s (Learnt d (w (peer s)) m) j (λ p e y. (e.0, y.0, e.2)) l

  pub sounds_now : (d : ℕ) (c : Side → ℕ) (x : Side) (Y : Machines → Type 0) (s : Side) (fast : Bool) (j : WorldState)
      → CanSound (w s) (w (peer s)) fast (c s) → Link d at w c x Y j → AtIt s (Sounds fast (silence_of fast)) j
  sounds_now d c x Y s fast j can l = of_end l s (Sounds fast (silence_of fast))
      (λ p rest timed a. sounds_first fast p rest timed (calm d (w s) (w (peer s)) fast (c s) p can a.0))

  pub some_silence : (b : Bool) → 1 ≤ silence_of b
  some_silence true = omega arith
  some_silence false = omega arith

  -- one that may sound is heard so soon, in rounds of so many ticks
  pub soon : (ticks : ℕ) → 1 ≤ ticks → (s : Side) (fast : Bool) (j : WorldState) → AtIt s (Sounds fast (silence_of fast)) j
      → AheadIn ticks at w s fast (silence_of fast + (ticks + ticks) - 1) j
  soon ticks more s fast j y = let some = some_silence fast in
      inl (omega (arith, some), subst (λ m. AtIt s (Sounds fast m) j) (sym (one_more ticks (silence_of fast) more)) y)

  pub can_known : (s : Side) (c : ℕ) → 1 ≤ c → (activity (w s) ≡ true) ⊎ (activity (w (peer s)) ≡ true) → CanSound (w s) (w (peer s)) (mode s) c
  can_known s c l a = grind (arith, nat_tests)

  pub ends_of : (d : ℕ) (c : Side → ℕ) (x : Side) (Y : Machines → Type 0) (s : Side) (j : WorldState) → Link d at w c x Y j
      → AtIt s (IsEnd d (w s) (w (peer s)) (c s)) j
  ends_of d c x Y s j l = of_end l s (IsEnd d (w s) (w (peer s)) (c s)) (λ p rest timed a. a.0)

  one_less_two : 2 ≤ 1 → ⊥
  one_less_two l = omega (arith, l)

  -- what is known fits, as long as it is kept
  pub fits_first : (c : Side → ℕ) → ((s : Side) → c s ≤ wait s) → Fits 1 w c
  fits_first c l s = (let m = l s in omega (arith, m), λ _. omega arith, λ e. absurd (one_less_two e), λ e. absurd (one_less_two e))

  -- through so many ticks
  abbrev pub AbleIn : ℕ → (Side → ℕ) → Type 0
  AbleIn n c = (s : Side) (a : ℕ) → a ≤ n → CanSound (w s) (w (peer s)) (mode s) (c s - a)

  -- an end that may sound is wakeful
  pub wakes_now : (d : ℕ) (c : Side → ℕ) (x : Side) (Y : Machines → Type 0) (s : Side) (fast : Bool) (j : WorldState)
      → CanSound (w s) (w (peer s)) fast (c s) → Link d at w c x Y j → AtIt s (Wakeful (w s) (w (peer s))) j
  wakes_now d c x Y s fast j can l = of_end l s (Wakeful (w s) (w (peer s)))
      (λ p rest timed a. can_wake d (w s) (w (peer s)) fast (c s) p can a.0)

module _ (at : Side → ℕ) (w : Side → Lacpdu) (counts : Side → ℕ) (kept : Side → Bool) where
  -- LACPDUs bear these change counts
  abbrev Rest : WorldState → Type 0
  Rest j = Stamped 1 at counts kept j

  -- the other end is told that this one is synchronized
  abbrev Told : Side → WorldState → Type 0
  Told s j = Said at w s PartnerInSync j

  -- Each end is heard in so many ticks, and the other end knows it for longer, by the slack, or the rounds are still few, and then for longer
  -- at all, with so many ticks to spare: in rounds of no more ticks than the first number.
  pub record GoingIn (ticks slack spare d most n : ℕ) (j : WorldState) : Type 0 where
    pub known : Side → ℕ
    pub next : Side → ℕ
    pub link : Link d at w known One Nothing j
    pub rest : Rest j
    pub fits : (s : Side) → known s ≤ wait at w s
    pub later : (s : Side) → ticks ≤ next s
    pub longer : (s : Side) → Longer slack spare most n (next s) (known (peer s))
    pub ahead : (s : Side) → AheadIn ticks at w s (mode at w s) (next s) j
    pub told : (s : Side) → 1 ≤ known (peer s) → Told s j
    pub took : (s : Side) → 1 ≤ known s → Took at counts kept s j

  -- the rounds are no longer few
  abbrev pub MetIn : ℕ → ℕ → ℕ → WorldState → Type 0
  MetIn ticks slack d j = GoingIn ticks slack 0 d 0 0 j

  -- so it is in rounds of one tick; the slack is for rounds of several ticks behind them
  abbrev pub Met : ℕ → WorldState → Type 0
  Met d j = MetIn 1 11 d j

  -- and so many rounds after both came to know each other
  abbrev pub Early : ℕ → WorldState → Type 0
  Early n j = GoingIn 1 11 0 1 12 n j

  known_long : (ticks slack spare d most n : ℕ) (j : WorldState) (g : GoingIn ticks slack spare d most n j) → 1 ≤ ticks → most ≤ n → (s : Side)
      → g.next s + slack ≤ g.known (peer s)
  known_long ticks slack spare d most n j g some l s = let m = g.longer s in let o = g.later s in grind (arith, nat_tests)

  pub knows_in : {most n : ℕ} (ticks slack d : ℕ) (j : WorldState) (g : GoingIn ticks slack 0 d most n j) → 1 ≤ slack → (s : Side) → ticks + 1 ≤ g.known s
  knows_in ticks slack d j g more s = let o = g.later (peer s) in let l = g.longer (peer s) in grind (arith, nat_tests, peer_twice)

  pub knows_late : {most n : ℕ} (d : ℕ) (j : WorldState) (g : GoingIn 1 11 0 d most n j) (s : Side) → 2 ≤ g.known s
  knows_late d j g s = knows_in 1 11 d j g (omega arith) s

  -- the rounds are counted otherwise
  pub counted : {spare most n : ℕ} (ticks slack d : ℕ) (j : WorldState) (more few m : ℕ) (g : GoingIn ticks slack spare d most n j)
      → ((s : Side) → Longer slack more few m (g.next s) (g.known (peer s))) → GoingIn ticks slack more d few m j
  counted ticks slack d j more few m g longer = record {
    known = g.known;
    next = g.next;
    link = g.link;
    rest = g.rest;
    fits = g.fits;
    later = g.later;
    longer = longer;
    ahead = g.ahead;
    told = g.told;
    took = g.took;
  }

  pub settled : (ticks slack spare d most n few m : ℕ) (j : WorldState) → 1 ≤ ticks → most ≤ n → GoingIn ticks slack spare d most n j
      → GoingIn ticks slack 0 d few m j
  settled ticks slack spare d most n few m j some l g =
      counted ticks slack d j 0 few m g (λ s. inl (known_long ticks slack spare d most n j g some l s))

  -- what is known behind rounds of one tick does for rounds of several
  pub for_several : (ticks d : ℕ) (j : WorldState) → 1 ≤ ticks → ticks + ticks ≤ 12 → Met d j → MetIn ticks 1 d j
  for_several ticks d j some few g = record {
    known = g.known;
    next = λ s. g.next s + (ticks + ticks) - 2;
    link = g.link;
    rest = g.rest;
    fits = g.fits;
    later = λ s. (let l = g.later s in omega (arith, l, some));
    longer = λ s. inl (let l = known_long 1 11 0 d 0 0 j g (omega arith) (omega arith) s in
        let o = g.later s in omega (arith, l, few, o));
    ahead = λ s. elim (g.ahead s) [
      | inl (two, sounds) ↦ inl (omega (arith, two, some), subst (λ m. AtIt at w s (Sounds (mode at w s) m) j) (omega (arith, two, some)) sounds)
      | inr (one, said, flies) ↦ inr (omega (arith, one, some), said, flies)
    ];
    told = g.told;
    took = g.took;
  }

  -- both ends know each other, and so they go on
  module _ (named : (t : Side) → IsNamed (w t)) (awake : (s : Side) → (activity (w s) ≡ true) ⊎ (activity (w (peer s)) ≡ true)) where
    fits_known : (d : ℕ) (c : Side → ℕ) → 1 ≤ d → ((s : Side) → c s ≤ wait at w s) → ((s : Side) → 1 ≤ c s) → Fits d w c
    fits_known d c there less some s = ((let l = less s in omega (arith, l)), λ _. there, λ _. some s, λ _. awake_peer w awake s)

    -- so many ticks before the end of a round, which has no more than the first number
    pub fits_in_round : {most n : ℕ} (ticks slack d : ℕ) (j : WorldState) (g : GoingIn ticks slack 0 d most n j) → 1 ≤ slack → 1 ≤ d → (k : ℕ)
        → k ≤ ticks → Fits d w (ticked_by k g.known)
    fits_in_round ticks slack d j g more there k less = fits_known d (ticked_by k g.known) there (λ s. let l = g.fits s in omega (arith, l))
        (λ s. let l = knows_in ticks slack d j g more s in omega (arith, l, less))

    pub fits_met : {most n : ℕ} (ticks slack d : ℕ) (j : WorldState) (g : GoingIn ticks slack 0 d most n j) → 1 ≤ slack → 1 ≤ d → Fits d w g.known
    fits_met ticks slack d j g more there =
        fits_known d g.known there g.fits (λ s. let l = knows_in ticks slack d j g more s in omega (arith, l))

    pub fits_fresh : {most n : ℕ} (d : ℕ) (j : WorldState) (g : GoingIn 1 11 0 d most n j) → 1 ≤ d → Fits d w (ticked g.known)
    fits_fresh d j g there = fits_in_round 1 11 d j g (omega arith) there 1 (omega arith)

    pub fits_before : {most n : ℕ} (d : ℕ) (j : WorldState) (g : GoingIn 1 11 0 d most n j) → 1 ≤ d → Fits d w g.known
    fits_before d j g there = fits_met 1 11 d j g (omega arith) there

    pub able_in : {most n : ℕ} (ticks slack d : ℕ) (j : WorldState) (g : GoingIn ticks slack 0 d most n j) → 1 ≤ slack → (k : ℕ) → k ≤ ticks
        → AbleIn at w k g.known
    able_in ticks slack d j g more k less s a l = let m = knows_in ticks slack d j g more s in
        can_known at w s (g.known s - a) (omega (arith, m, l, less)) (awake s)

    pub wakes_met : {most n : ℕ} (ticks slack d : ℕ) (j : WorldState) (g : GoingIn ticks slack 0 d most n j) → 1 ≤ slack → (s : Side)
        → AtIt at w s (Wakeful (w s) (w (peer s))) j
    wakes_met ticks slack d j g more s = wakes_now at w d g.known One Nothing s (mode at w s) j (can_known at w s (g.known s)
        (let m = knows_in ticks slack d j g more s in omega (arith, m)) (awake s)) g.link

  -- both ends know each other: as a contract has it
  pub met_knows : {most n : ℕ} (ticks slack : ℕ) → 1 ≤ slack → (l : LinkState) → ((s : Side) → port_at s l ≡ at s) → (j : WorldState)
      → GoingIn ticks slack 0 1 most n j → (s : Side) → EndKnows s l j
  met_knows ticks slack more l joins j g s = let one = end_here at w 1 g.known One Nothing j g.link s in
      let other = end_here at w 1 g.known One Nothing j g.link (peer s) in
      let r = (one.is.1.1 (let m = knows_in ticks slack 1 j g more s in omega (arith, m))).0 in
      let knows : Knows one.port.port other.port.port = record {
        current = r.current;
        party = r.party ∙ sym other.is.0.0;
        active = r.active ∙ sym other.is.0.1;
        short = r.short ∙ sym other.is.0.2;
        present = r.present;
        heard = r.heard;
      } in
      grind (arith, nat_tests, other)

  -- what one round makes of one direction
  pub record Went (ticks slack spare d most n : ℕ) (s : Side) (j : WorldState) : Type 0 where
    pub next : ℕ
    pub known : ℕ
    pub fits : known ≤ wait at w (peer s)
    pub later : ticks ≤ next
    pub longer : Longer slack spare most n next known
    pub ahead : AheadIn ticks at w s (mode at w s) next j
    pub told : 1 ≤ known → Told s j
    pub took : 1 ≤ known → Took at counts kept (peer s) j
    pub peer : AtIt at w (peer s) (IsEnd d (w (peer s)) (w (peer (peer s))) known) j

  -- and so of both
  pub both_went : (ticks slack spare d most n : ℕ) (c : Side → ℕ) (j : WorldState) → Link d at w c One Nothing j → Rest j
      → ((s : Side) → Went ticks slack spare d most n s j) → GoingIn ticks slack spare d most n j
  both_went ticks slack spare d most n c j base rest r =
      let own : (u : Side) → AtIt at w u (IsEnd d (w u) (w (peer u)) (r (peer u)).known) j =
      λ u. subst (λ t. AtIt at w t (IsEnd d (w t) (w (peer t)) (r (peer u)).known) j) (peer_twice u) (r (peer u)).peer in
      record {
        known = λ u. (r (peer u)).known;
        next = λ s. (r s).next;
        link = with_ports base (λ u. each_map (AtPort (at u) (IsEnd d (w u) (w (peer u)) (r (peer u)).known))
            (AtPort (at u) (EndIs d w (λ v. (r (peer v)).known) One Nothing u)) (λ m p a i. (a i, λ f. tt))
            (half u j).state.system_ports (own u));
        rest = rest;
        fits = λ u. subst (λ t. (r (peer u)).known ≤ wait at w t) (peer_twice u) (r (peer u)).fits;
        later = λ s. (r s).later;
        longer = λ s. subst (λ t. Longer slack spare most n (r s).next (r t).known) (sym (peer_twice s)) (r s).longer;
        ahead = λ s. (r s).ahead;
        told = λ s i. (r s).told (subst (λ t. 1 ≤ (r t).known) (peer_twice s) i);
        took = λ u i. subst (λ t. Took at counts kept t j) (peer_twice u) ((r (peer u)).took i);
      }

  module _ (gives : Algorithms) where
    abbrev Round : WorldState → WorldState → Type 0
    Round old new = PlayedBeside at OldArrive gives old new

    -- what is heard is known for longer than that, by the slack
    abbrev pub Leaves : ℕ → ℕ → Type 0
    Leaves ticks slack = (b : Bool) → silence_of b + (ticks + ticks) - 1 + slack ≤ timeout_time b - ticks

    pub leaves_once : Leaves 1 11
    leaves_once true = omega arith
    leaves_once false = omega arith

    pub leaves_six : Leaves most_ticks 1
    leaves_six true = omega arith
    leaves_six false = omega arith

    -- a round of k ticks
    module _ (named : (t : Side) → IsNamed (w t)) (ticks slack k : ℕ) (leaves : Leaves ticks slack) (some : 1 ≤ k) (less : k ≤ ticks)
        (few : k + 1 ≤ 30) where
      -- it has just been heard
      pub heard : (spare d most n : ℕ) (c : Side → ℕ) (s : Side) (j : WorldState) → HearsIn k d at w counts kept c s j
          → AheadIn ticks at w s (mode at w s) (silence_of (mode at w s) + (ticks + ticks) - 1) j → Went ticks slack spare d most n s j
      heard spare d most n c s j q ahead =
          let known = learns_for at w (wait_of (w (peer s)) - k) d (ticked_by k c) (peer s) j q.link in
          let quiet = some_silence at w (mode at w s) in
          let enough : silence_of (mode at w s) + (ticks + ticks) - 1 + slack ≤ wait_of (w (peer s)) - ticks = leaves (mode at w s) in
          record {
            next = silence_of (mode at w s) + (ticks + ticks) - 1;
            known = wait_of (w (peer s)) - k;
            fits = omega (arith, some);
            later = omega (arith, quiet);
            longer = inl (omega (arith, enough, less));
            ahead = ahead;
            told = λ i. q.told;
            took = λ i. q.took;
            peer = subst (λ m. AtIt at w (peer s) (IsEnd d (w (peer s)) (w (peer (peer s))) m) j) (two_there (peer s) (wait_of (w (peer s)) - k) 0)
                (ends_of at w d (two (peer s) (wait_of (w (peer s)) - k) 0) (peer s) Nothing (peer s) j known);
          }

      -- it was heard before, and is again, or its next LACPDU is nearer
      pub went_on : (spare d most n : ℕ) (old new : WorldState) (c : Side → ℕ) (s : Side) (next : ℕ) → 1 ≤ d → Fits d w c → Fits d w (ticked_by k c)
          → ((t : Side) → c t ≤ wait at w t) → TicksBeside k at OldArrive gives old new → Link d at w c One Nothing old → Rest old
          → AtIt at w s (Wakeful (w s) (w (peer s))) old → (ticks ≤ next - k → Longer slack spare most n (next - k) (c (peer s) - k))
          → (1 ≤ c (peer s) → Told s old) → (1 ≤ c (peer s) → Took at counts kept (peer s) old)
          → AheadIn ticks at w s (mode at w s) (silence_of (mode at w s) + (ticks + ticks) - 1) new
          → ((ticks ≤ next - k) × AheadIn ticks at w s (mode at w s) (next - k) new) ⊎ HearsIn k d at w counts kept c s new
          → Went ticks slack spare d most n s new
      went_on spare d most n old new c s next there fit then short h link rest awake longer told took ahead (inr q) = heard spare d most n c s new q ahead
      went_on spare d most n old new c s next there fit then short h link rest awake longer told took ahead (inl q) = record {
        next = next - k;
        known = c (peer s) - k;
        fits = let l = short (peer s) in omega (arith, l);
        later = q.0;
        longer = longer q.0;
        ahead = q.1;
        told = λ i. (ticks_tell gives d at w counts kept s there (inr (named (peer s))) k few c fit then One old new link awake h (omega (arith, i))
            (told (omega (arith, i)))).1;
        took = λ i. (ticks_take gives at counts kept k old new h (peer s) (rest, took (omega (arith, i)))).1;
        peer = ends_of at w d (ticked_by k c) One Nothing (peer s) new (ticks_keep gives k One d at w c old new fit then link h);
      }

      pub goes_in : (spare d most n : ℕ) (old new : WorldState) (g : GoingIn ticks slack spare d most n old) → 1 ≤ d → Fits d w g.known
          → Fits d w (ticked_by k g.known) → AbleIn at w k g.known → TicksBeside k at OldArrive gives old new → GoingIn ticks slack spare d most (n + 1) new
      goes_in spare d most n old new g there fit then can h = both_went ticks slack spare d most (n + 1) (ticked_by k g.known) new base
          (ticks_stamp 1 gives at counts kept k old new h g.rest) went
        where
          base : Link d at w (ticked_by k g.known) One Nothing new
          base = ticks_keep gives k One d at w g.known old new fit then g.link h

          awake : (s : Side) → AtIt at w s (Wakeful (w s) (w (peer s))) old
          awake s = wakes_now at w d g.known One Nothing s (mode at w s) old
              (subst (CanSound (w s) (w (peer s)) (mode at w s)) (no_less (g.known s)) (can s 0 (omega arith))) g.link

          went : (s : Side) → Went ticks slack spare d most (n + 1) s new
          went s = went_on spare d most (n + 1) old new g.known s (g.next s) there fit then g.fits h g.link g.rest (awake s)
              (λ m. elim (g.longer s) [
                | inl l ↦ inl (omega (arith, l, m, some, less))
                | inr (l, o) ↦ inr (omega (arith, l, m, some, less), omega (arith, o, m, some, less))
              ])
              (g.told s) (g.took (peer s)) (soon at w ticks (omega (arith, some, less)) s (mode at w s) new
              (sounds_now at w d (ticked_by k g.known) One Nothing s (mode at w s) new (can s k (omega arith)) base))
              (ticks_near gives d at w counts kept s there (inr (named (peer s))) k few g.known fit then ticks (mode at w s) (g.next s) old new less
              (can s) g.link (awake s) g.rest (g.ahead s) h)

      pub stays_met_in : ((s : Side) → (activity (w s) ≡ true) ⊎ (activity (w (peer s)) ≡ true)) → (d most n : ℕ) (old new : WorldState) → 1 ≤ d
          → 1 ≤ slack → TicksBeside k at OldArrive gives old new → GoingIn ticks slack 0 d most n old → GoingIn ticks slack 0 d most (n + 1) new
      stays_met_in awake d most n old new there more h g = goes_in 0 d most n old new g there (fits_met named awake ticks slack d old g more there)
          (fits_in_round named awake ticks slack d old g more there k less) (able_in named awake ticks slack d old g more k less) h

      -- and the rounds are counted as before
      pub stays_counted : ((s : Side) → (activity (w s) ≡ true) ⊎ (activity (w (peer s)) ≡ true)) → (d most n : ℕ) (old new : WorldState) → 1 ≤ d
          → 1 ≤ slack → TicksBeside k at OldArrive gives old new → GoingIn ticks slack 0 d most n old → GoingIn ticks slack 0 d most n new
      stays_counted awake d most n old new there more h g = let f = stays_met_in awake d most n old new there more h g in
          counted ticks slack d new 0 most n f (λ s. elim (f.longer s) [ inl l ↦ inl l | inr (l, o) ↦ inr (omega (arith, l), o) ])

    pub stays_met : {most n : ℕ} → ((t : Side) → IsNamed (w t)) → ((s : Side) → (activity (w s) ≡ true) ⊎ (activity (w (peer s)) ≡ true)) → (d : ℕ)
        (old new : WorldState) → 1 ≤ d → Round old new → GoingIn 1 11 0 d most n old → GoingIn 1 11 0 d most n new
    stays_met {most} {n} named awake d old new there h g =
        stays_counted named 1 11 1 leaves_once (omega arith) (omega arith) (omega arith) awake d most n old new there (omega arith) (once h) g

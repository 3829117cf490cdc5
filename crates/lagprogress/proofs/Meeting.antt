-- How the ends of a cable come to know each other, in rounds of one tick to N.
use Rattle.lagprogress.proofs.Common.{Bool, arith, false, inl, inr, refl, subst, suc, sym, true, zero, ℕ, ◌+◌, ◌-◌, ◌∙◌, ◌≡◌, ◌≤◌, ◌⊎◌, cases_Bool}
use Rattle.lagprogress.proofs.Common.{nat_tests, Lacpdu, One, Side, Two, peer, Algorithms, WorldState, half, timeout_time, no, Sounds, silence_of}
use Rattle.lagprogress.proofs.Common.{sounds_first, LeavesPorts, OldArrive, IsTickedRound, TickedRounds}
use Rattle.lagprogress.proofs.LateHearing.{AheadIn, Flies, HearsIn, Said, Whoever, ticks_bring, ticks_near, ticks_pass, ticks_stamp, ticks_take}
use Rattle.lagprogress.proofs.LateHearing.{near_by, ticks_tell}
use Rattle.lagprogress.proofs.Lasting.{awake_at}
use Rattle.lagprogress.proofs.Claims.{IsNamed, Wakeful}
use Rattle.lagprogress.proofs.EndFacts.{CanSound, IsEnd, Learnt, activity, short_timeout, wait_of}
use Rattle.lagprogress.proofs.HostRound.{two, two_there}
use Rattle.lagprogress.proofs.Lapsing.{Brisk, IsQuick, Keen, LastingIn, NewTail, Phase, Tail, begins_lasting_in, brisk_passes, keen_active}
use Rattle.lagprogress.proofs.Lapsing.{keen_along, keen_calm, keen_ticks, lasting_in_now, lasting_ticks}
use Rattle.lagprogress.proofs.Linked.{Fits, Link, both_at, each_side, of_end, peer_twice}
use Rattle.lagprogress.proofs.OneRound.{Nothing, at_rest, beside_here, forget, join}
use Rattle.lagprogress.proofs.Knowing.{AtIt, GoingIn, beside, can_known, ends_of, fits_first, goes_in, known_by, learns_for, lower, mode, settled}
use Rattle.lagprogress.proofs.Knowing.{some_silence, sounds_now, two_less, wait, wakes_now, Leaves, Longer, Went, both_went, heard, went_on}
use Rattle.lagprogress.proofs.Knowing.{stays_counted, soon}
use Rattle.lagprogress.proofs.SeveralTicks.{TicksBeside, no_less, ticked_by, ticks_hold, ticks_keep}
use Rattle.lagprogress.proofs.Stamps.{Stamped, Took}
use Rattle.lagprogress.proofs.Climbing.{PartnerInSync}

module _ (at : Side → ℕ) (w : Side → Lacpdu) (s : Side) (quick : IsQuick (w (peer s))) where
  keen_wakes : (c : Side → ℕ) (e : ℕ) (j : WorldState) → Link 1 at w c One Nothing j → AtIt at w s (Keen (w (peer s)) e) j
      → AtIt at w s (Wakeful (w s) (w (peer s))) j
  keen_wakes c e j l y = of_end (join 1 at w c One s (Keen (w (peer s)) e) j l y) s (Wakeful (w s) (w (peer s)))
      (λ p rest timed a. inr (quick.0, λ same. keen_active (w (peer s)) e p quick (a.1 refl)))

  keen_sounds : (c : Side → ℕ) (e : ℕ) (j : WorldState) → Link 1 at w c One Nothing j → AtIt at w s (Keen (w (peer s)) e) j
      → AtIt at w s (Sounds true (silence_of true)) j
  keen_sounds c e j l y = of_end (join 1 at w c One s (Keen (w (peer s)) e) j l y) s (Sounds true (silence_of true))
      (λ p rest timed a. sounds_first true p rest timed (keen_calm (w (peer s)) e p quick a.0.1.0 (a.1 refl)))

  module _ (gives : Algorithms) (k : ℕ) (few : k + 1 ≤ 30) (c : Side → ℕ) (fits : Fits 1 w c) (then : Fits 1 w (ticked_by k c)) (e : ℕ) (more : k + 1 ≤ e)
      (less : e ≤ wait_of (w s) + 30) where
    keen_stays : (old new : WorldState) → Link 1 at w c One Nothing old → TicksBeside k at OldArrive gives old new
        → AtIt at w s (Keen (w (peer s)) e) old → AtIt at w s (Keen (w (peer s)) (e - k)) new
    keen_stays old new l h y = beside at w 1 (ticked_by k c) s (Keen (w (peer s)) (e - k)) new
        (ticks_hold gives k s 1 at w c (λ a. Keen (w (peer s)) (e - a)) old new fits then
        (λ a q. keen_along (w s) (w (peer s)) (c s - a) 1 (e - a) (omega arith) (omega (arith, less)))
        (λ a q p r run rest f z. subst (λ i. Keen (w (peer s)) i r) (omega arith)
        (keen_ticks (w (peer s)) (e - a) p r quick (omega (arith, more, q)) f.1.0 run z))
        (λ a p z. z) (join 1 at w c One s (Keen (w (peer s)) (e - 0)) old l (subst (λ i. AtIt at w s (Keen (w (peer s)) i) old) (sym (no_less e)) y)) h)

    -- an LACPDU of such an end is nearer, or the other end has heard one
    keen_near : (counts : Side → ℕ) (kept : Side → Bool) (named : (activity (w s) ≡ true) ⊎ IsNamed (w (peer s))) (most m : ℕ) (old new : WorldState) → k ≤ most
        → Link 1 at w c One Nothing old → Stamped 1 at counts kept old → AtIt at w s (Keen (w (peer s)) e) old → AheadIn most at w s true m old
        → TicksBeside k at OldArrive gives old new → ((most ≤ m - k) × AheadIn most at w s true (m - k) new) ⊎ HearsIn k 1 at w counts kept c s new
    keen_near counts kept named most m old new short l stamped keen ahead h = let u = w (peer s) in
        let far : ℕ = m + 1 - (most + most) in
        near_by gives 1 at w counts kept s (omega arith) named k few c fits then most true m (λ a. Brisk u (far - a) (e - a))
        (λ a. Brisk u (far - a) (e - a)) (λ p. (1 ≤ far - k) × Brisk u (far - k) (e - k) p)
        (brisk_passes (w s) u k (c s) 1 far e quick (omega arith) more less) (λ p y. (y.0, y.1.0)) old new short
        (λ sounds. both_at (at s) (Sounds true far) (Keen u e) (Brisk u (far - 0) (e - 0))
        (λ p a b. (subst (λ q. Sounds true q p) (sym (no_less far)) a, subst (λ q. Keen u q p) (sym (no_less e)) b)) (half s old).state.system_ports
        sounds keen) l (keen_wakes c e old l keen) stamped ahead h

-- rounds of one tick to N

rounds_on : (at : Side → ℕ) (gives : Algorithms) (N : ℕ) (S : ℕ → WorldState → Type 0) (start : WorldState)
    → ((new : WorldState) → IsTickedRound (LeavesPorts at) N gives start new → S 1 new)
    → ((n : ℕ) (old new : WorldState) → IsTickedRound (LeavesPorts at) N gives old new → S n old → S (n + 1) new)
    → (n : ℕ) (new : WorldState) → 1 ≤ n → TickedRounds (LeavesPorts at) N gives n start new → S n new
rounds_on at gives N S start first next zero new l h = absurd (omega (arith, l))
rounds_on at gives N S start first next (suc zero) new l h = grind (arith, nat_tests)
rounds_on at gives N S start first next (suc (suc n)) new l (mid, h, r) =
    subst (λ m. S m new) (omega arith) (next (suc n) mid new r (rounds_on at gives N S start first next (suc n) mid (omega arith) h))

-- the phases

module _ (at : Side → ℕ) (w : Side → Lacpdu) (counts : Side → ℕ) (kept : Side → Bool) (gives : Algorithms) (N : ℕ) (some : 1 ≤ N) (small : N ≤ 6)
    (slack : ℕ) (loose : 1 ≤ slack) (tight : slack ≤ 11) (leaves : Leaves at w counts kept gives N slack) (named : (t : Side) → IsNamed (w t)) where
  abbrev Rest : WorldState → Type 0
  Rest j = Stamped 1 at counts kept j

  abbrev Round : WorldState → WorldState → Type 0
  Round old new = IsTickedRound (LeavesPorts at) N gives old new

  -- the ticks in which the other end hears one that may sound
  abbrev gap : Bool → ℕ
  gap b = silence_of b + (N + N) - 1

  -- both ends know each other since few rounds
  abbrev EarlyIn : WorldState → Type 0
  EarlyIn j = GoingIn at w counts kept N slack 0 1 (gap true) 0 j

  -- an end may sound now
  abbrev Sounding : Side → WorldState → Type 0
  Sounding s j = AtIt at w s (Sounds (mode at w s) (silence_of (mode at w s))) j

  few_ticks : (k : ℕ) → k ≤ N → k + 1 ≤ 30
  few_ticks k l = omega (arith, l, small)

  -- The end of s is heard in so many ticks, and the other end knows it for longer.
  abbrev Goes : Side → WorldState → Type 0
  Goes s j = Went at w counts kept N slack 0 1 (gap true) 0 s j

  goes_longer : (s : Side) (j : WorldState) (g : Goes s j) → g.next + 1 ≤ g.known
  goes_longer s j g = let l = g.longer in grind (arith, nat_tests)

  -- so it is of both
  goes_both : (c : Side → ℕ) (j : WorldState) → Link 1 at w c One Nothing j → Rest j → ((s : Side) → Goes s j) → EarlyIn j
  goes_both = both_went at w counts kept N slack 0 1 (gap true) 0

  -- it has just been heard
  heard_now : (s : Side) (k : ℕ) (c : Side → ℕ) (j : WorldState) → 1 ≤ k → k ≤ N → HearsIn k 1 at w counts kept c s j → Sounding s j → Goes s j
  heard_now s k c j one less q sounds = heard at w counts kept gives named N slack k leaves one less (few_ticks k less) 0 1 (gap true) 0 c s j q
      (soon at w N some s (mode at w s) j sounds)

  -- what is left of the time that an end is known does, if there was room for two gaps in it
  longer_left : (b c : Bool) (m : ℕ) → gap b + 1 + gap c + N ≤ timeout_time b → timeout_time b ≤ m + N + gap c → Longer slack 0 (gap true) 0 (gap b) m
  longer_left b c m room l = grind (arith, nat_tests)

  -- what a round leaves of what is known
  record Carried (k : ℕ) (c : Side → ℕ) (new : WorldState) : Type 0 where
    fits : Fits 1 w c
    then : Fits 1 w (ticked_by k c)
    link : Link 1 at w (ticked_by k c) One Nothing new
    rest : Rest new

  carried : (k : ℕ) (c : Side → ℕ) (old new : WorldState) → TicksBeside k at OldArrive gives old new → ((t : Side) → c t ≤ wait at w t)
      → Link 1 at w c One Nothing old → Rest old → Carried k c new
  carried k c old new h short link rest = let fits = fits_first at w c short in
      let then = fits_first at w (ticked_by k c) (λ t. let l = short t in omega (arith, l)) in
      record {
        fits = fits;
        then = then;
        link = ticks_keep gives k One 1 at w c old new fits then link h;
        rest = ticks_stamp 1 gives at counts kept k old new h rest;
      }

  -- the other end has just heard it, and may sound
  answers_now : (s : Side) (k : ℕ) (c : Side → ℕ) (new : WorldState) → k ≤ N → (activity (w (peer s)) ≡ true) ⊎ (activity (w (peer (peer s))) ≡ true)
      → HearsIn k 1 at w counts kept c s new → Sounding (peer s) new
  answers_now s k c new less awake q = let m = wait_of (w (peer s)) - k in
      let enough = leaves (mode at w s) in
      sounds_now at w 1 (two (peer s) m 0) (peer s) Nothing (peer s) (mode at w (peer s)) new (can_known at w (peer s) (two (peer s) m 0 (peer s))
      (subst (λ n. 1 ≤ n) (sym (two_there (peer s) m 0)) (omega (arith, enough, less, loose))) awake)
      (learns_for at w m 1 (ticked_by k c) (peer s) new q.link)

  -- an active end sends once in a while, whatever it knows

  abbrev Calls : Side → ℕ → WorldState → Type 0
  Calls s n j = (m : ℕ) × (N ≤ m) × (n + m ≤ 1 + gap false) × Link 1 at w (λ _. 0) One Nothing j × Rest j × AheadIn N at w s false m j

  can_call : (s : Side) (c : ℕ) → activity (w s) ≡ true → CanSound (w s) (w (peer s)) false c
  can_call s c active = (inl active, λ i. absurd (no i))

  called : (s : Side) → activity (w s) ≡ true → (j : WorldState) → Link 1 at w (λ _. 0) One Nothing j → Rest j → Calls s 1 j
  called s active j l rest = (
    gap false,
    omega (arith, small),
    omega arith,
    l,
    rest,
    soon at w N some s false j (sounds_now at w 1 (λ _. 0) One Nothing s false j (can_call s 0 active) l),
  )

  none_short : (t : Side) → 0 ≤ wait at w t
  none_short t = omega arith

  -- it still calls, or the other end has just heard it
  calls_on : (s : Side) (active : activity (w s) ≡ true) (n k : ℕ) (old new : WorldState) → 1 ≤ k → k ≤ N → TicksBeside k at OldArrive gives old new
      → Calls s n old → Calls s (n + 1) new ⊎ (HearsIn k 1 at w counts kept (λ _. 0) s new × (n + 1 ≤ 1 + gap false) × Rest new)
  calls_on s active n k old new one less h (m, later, in_time, link, rest, ahead) =
      let r = carried k (λ _. 0) old new h none_short link rest in
      elim (ticks_near gives 1 at w counts kept s (omega arith) (inl active) k (few_ticks k less) (λ _. 0) r.fits r.then N false m old new less
      (λ a l. can_call s (0 - a) active) link (wakes_now at w 1 (λ _. 0) One Nothing s false old (can_call s 0 active) link) rest ahead h) [
        | inl q ↦ (let more = q.0 in
            inl (
              m - k,
              more,
              omega (arith, in_time, more, one, some),
              lower at w (ticked_by k (λ _. 0)) (λ _. 0) One Nothing new (λ _. omega arith) r.link,
              r.rest,
              q.1,
            ))
        | inr q ↦ inr (q, omega (arith, in_time, later, some), r.rest)
      ]

  -- The other end has heard that of s, and knows it; so it is heard before it forgets.
  record Answers (s : Side) (most n : ℕ) (j : WorldState) : Type 0 where
    known : Side → ℕ
    link : Link 1 at w known One Nothing j
    rest : Rest j
    fits : (t : Side) → known t ≤ wait at w t
    left : ℕ
    later : N ≤ left
    in_time : n + left ≤ most + gap (mode at w (peer s))
    enough : wait_of (w (peer s)) + left ≤ known (peer s) + N + gap (mode at w (peer s))
    ahead : AheadIn N at w (peer s) (mode at w (peer s)) left j
    wakes : AtIt at w s (Wakeful (w s) (w (peer s))) j
    told : Said at w s PartnerInSync j
    took : Took at counts kept (peer s) j

  begins_answers : (s : Side) (most n k : ℕ) (c : Side → ℕ) (j : WorldState) → (activity (w (peer s)) ≡ true) ⊎ (activity (w (peer (peer s))) ≡ true)
      → 1 ≤ k → k ≤ N → n ≤ most → HearsIn k 1 at w counts kept c s j → Rest j → Sounding (peer s) j → Answers s most n j
  begins_answers s most n k c j awake one less l q rest sounds = let t = peer s in
      let m = wait_of (w t) - k in
      let some_left = leaves (mode at w s) in
      record {
        known = two t m 0;
        link = forget 1 at w (two t m 0) t One Nothing j (learns_for at w m 1 (ticked_by k c) t j q.link);
        rest = rest;
        fits = two_less t (wait at w) m 0 (omega (arith, one)) (omega arith);
        left = gap (mode at w t);
        later = (let quiet = some_silence at w (mode at w t) in omega (arith, quiet, some));
        in_time = omega (arith, l);
        enough = subst (λ x. wait_of (w t) + gap (mode at w t) ≤ x + N + gap (mode at w t)) (sym (two_there t m 0))
            (omega (arith, less, some_left));
        ahead = soon at w N some t (mode at w t) j sounds;
        wakes = q.wakes;
        told = q.told;
        took = q.took;
      }

  -- The end of s knows the other end, which sends fast still, but may have forgotten it.
  record Half (s : Side) (most n : ℕ) (j : WorldState) : Type 0 where
    known : Side → ℕ
    link : Link 1 at w known One Nothing j
    rest : Rest j
    goes : Goes (peer s) j
    left : ℕ
    later : N ≤ left
    in_time : n + left ≤ most
    ahead : AheadIn N at w s (mode at w s) left j
    time : ℕ
    enough : left + 1 ≤ time
    bounded : time ≤ wait_of (w (peer s)) + 30
    keen : AtIt at w (peer s) (Keen (w (peer (peer s))) time) j

  -- it goes on so
  met_on : ((u : Side) → (activity (w u) ≡ true) ⊎ (activity (w (peer u)) ≡ true)) → (old new : WorldState) → Round old new → EarlyIn old → EarlyIn new
  met_on awake old new (k, one, less, h) g = stays_counted at w counts kept gives named N slack k leaves one less (few_ticks k less) awake 1 (gap true) 0
      old new (omega arith) loose h g

  -- both are active and have Long Timeout

  abbrev Lasts : ℕ → WorldState → Type 0
  Lasts n j = GoingIn at w counts kept N slack (gap false + 1) 1 (1 + gap false) n j

  module _ (active : (s : Side) → activity (w s) ≡ true) (long : (s : Side) → mode at w s ≡ false) where
    lasts_first : (j : WorldState) → Link 1 at w (λ _. 0) One Nothing j → Rest j → Lasts 1 j
    lasts_first j l rest = record {
      known = λ _. 0;
      next = λ _. gap false;
      link = l;
      rest = rest;
      fits = λ s. omega arith;
      later = λ s. omega (arith, small);
      longer = λ s. inr (omega arith, omega arith);
      ahead = λ s. subst (λ b. AheadIn N at w s b (gap false) j) (sym (long s))
          (soon at w N some s false j (sounds_now at w 1 (λ _. 0) One Nothing s false j (can_call s 0 (active s)) l));
      told = λ s i. absurd (omega (arith, i));
      took = λ s i. absurd (omega (arith, i));
    }

    lasts : (n : ℕ) (old new : WorldState) → Round old new → Lasts n old → Lasts (n + 1) new
    lasts n old new (k, one, less, h) g = goes_in at w counts kept gives named N slack k leaves one less (few_ticks k less) (gap false + 1) 1 (1 + gap false) n
        old new g (omega arith) (fits_first at w g.known g.fits) (fits_first at w (ticked_by k g.known) (λ t. let l = g.fits t in omega (arith, l)))
        (λ s a l. (inl (active s), λ i. absurd (no (sym (long s) ∙ i)))) h

    lasted : (n : ℕ) (j : WorldState) → 1 + gap false ≤ n → Lasts n j → EarlyIn j
    lasted n j l g = settled at w counts kept N slack (gap false + 1) 1 (1 + gap false) n (gap true) 0 j some l g

  -- one end is active, and has Short Timeout, or the other end has Long Timeout

  module _ (s : Side) (awake : (u : Side) → (activity (w u) ≡ true) ⊎ (activity (w (peer u)) ≡ true)) (most last : ℕ) where
    abbrev t : Side
    t = peer s

    -- there is room for two gaps in the time that the other end knows it
    abbrev Wide : Type 0
    Wide = gap (mode at w s) + 1 + gap (mode at w t) + N ≤ wait_of (w t)

    -- both have Short Timeout
    abbrev Narrow : Type 0
    Narrow = (activity (w s) ≡ true) × (mode at w s ≡ true) × (mode at w t ≡ true)

    -- and the last round is late enough: if there is no such room, it takes a gap more
    abbrev Room : Type 0
    Room = (Wide × (most + gap (mode at w t) ≤ last)) ⊎ (Narrow × (most + gap (mode at w t) + gap true ≤ last))

    in_room : Room → most + gap (mode at w t) ≤ last
    in_room r = grind (arith, nat_tests)

    room_left : Room → gap (mode at w t) + N + 1 ≤ wait_of (w t)
    room_left r = grind (arith, nat_tests)

    abbrev Answered : ℕ → WorldState → Type 0
    Answered n j = Answers s most n j ⊎ ((Narrow × Half s last n j) ⊎ EarlyIn j)

    answers_on : Room → (n k : ℕ) (old new : WorldState) → 1 ≤ k → k ≤ N → TicksBeside k at OldArrive gives old new → Answers s most n old
        → Answered (n + 1) new
    answers_on room n k old new one less h a =
        elim (ticks_near gives 1 at w counts kept t (omega arith) (inr (named (peer t))) k (few_ticks k less) c r.fits r.then N (mode at w t) a.left
        old new less able a.link (wakes_now at w 1 c One Nothing t (mode at w t) old (can_known at w t (c t) (omega (arith, some_left)) (awake t)) a.link)
        a.rest a.ahead h) [
          | inl q ↦ (let more = q.0 in
              let l = a.in_time in
              let o = a.enough in
              inl (record {
                known = ticked_by k c;
                link = r.link;
                rest = r.rest;
                fits = λ u. (let f = a.fits u in omega (arith, f));
                left = a.left - k;
                later = more;
                in_time = omega (arith, l, more, one, some);
                enough = omega (arith, o, more, some_left, less, some);
                ahead = q.1;
                wakes = tell.0;
                told = tell.1;
                took = (ticks_take gives at counts kept k old new h t (a.rest, a.took)).1;
              }))
          | inr q ↦ inr (ends q room)
        ]
      where
        c : Side → ℕ
        c = a.known

        r : Carried k c new
        r = carried k c old new h a.fits a.link a.rest

        some_left : N + 1 ≤ c t
        some_left = let l = a.enough in let m = a.later in let r = room_left room in omega (arith, l, m, r)

        able : (i : ℕ) → i ≤ k → CanSound (w t) (w (peer t)) (mode at w t) (c t - i)
        able i l = can_known at w t (c t - i) (omega (arith, some_left, l, less)) (awake t)

        tell : AtIt at w s (Wakeful (w s) (w (peer s))) new × Said at w s PartnerInSync new
        tell = ticks_tell gives 1 at w counts kept s (omega arith) (inr (named (peer s))) k (few_ticks k less) c r.fits r.then One old new a.link a.wakes h
            (omega (arith, some_left, less)) a.told

        own_sounds : HearsIn k 1 at w counts kept c t new → Sounding s new
        own_sounds q = subst (λ u. Sounding u new) (peer_twice s)
            (answers_now t k c new less (awake (peer t)) q)

        other_goes : HearsIn k 1 at w counts kept c t new → Goes t new
        other_goes q = heard_now t k c new one less q (sounds_now at w 1 (ticked_by k c) One Nothing t (mode at w t) new (able k (omega arith)) r.link)

        ends : HearsIn k 1 at w counts kept c t new → Room → (Narrow × Half s last (n + 1) new) ⊎ EarlyIn new
        ends q (inl (wide, in_last)) = inr (goes_both (ticked_by k c) new r.link r.rest (each_side (λ u. Goes u new) s (record {
          next = gap (mode at w s);
          known = c t - k;
          fits = let f = a.fits t in omega (arith, f);
          later = let quiet = some_silence at w (mode at w s) in omega (arith, quiet, some);
          longer = longer_left (mode at w s) (mode at w t) (c t - k) wide (let l = a.enough in let m = a.later in omega (arith, l, m, less));
          ahead = soon at w N some s (mode at w s) new (own_sounds q);
          told = λ i. tell.1;
          took = λ i. (ticks_take gives at counts kept k old new h t (a.rest, a.took)).1;
          peer = ends_of at w 1 (ticked_by k c) One Nothing t new r.link;
        }) (other_goes q)))
        ends q (inr (narrow, in_last)) = inl (
          narrow,
          record {
            known = ticked_by k c;
            link = r.link;
            rest = r.rest;
            goes = other_goes q;
            left = gap (mode at w s);
            later = let quiet = some_silence at w (mode at w s) in omega (arith, quiet, some);
            in_time = let l = a.in_time in let m = a.later in
                subst (λ b. n + 1 + gap b ≤ last) (sym narrow.1) (omega (arith, l, m, some, in_last));
            ahead = soon at w N some s (mode at w s) new (own_sounds q);
            time = c t - k + 30;
            enough = subst (λ b. gap b + 1 ≤ c t - k + 30) (sym narrow.1) (omega (arith, small));
            bounded = let f = a.fits t in omega (arith, f);
            keen = of_end r.link t (Keen (w (peer t)) (c t - k + 30)) (λ p rest timed x. (let r = x.0.1.1 (omega (arith, some_left, less)) in
                let l = r.1 in
                inl (r.0, omega (arith, l))));
          },
        )

    half_on : Narrow → (n k : ℕ) (old new : WorldState) → 1 ≤ k → k ≤ N → TicksBeside k at OldArrive gives old new → Half s last n old
        → Half s last (n + 1) new ⊎ EarlyIn new
    half_on (on, slow, fast) n k old new one less h a =
        elim (ticks_near gives 1 at w counts kept s (omega arith) (inr (named t)) k (few_ticks k less) c r.fits r.then N (mode at w s) a.left old new less able
        link (wakes_now at w 1 c One Nothing s (mode at w s) old (can_known at w s (c s) (omega (arith, some_left)) (awake s)) link) a.rest a.ahead h) [
          | inl q ↦ (let more = q.0 in
              let l = a.in_time in
              let o = a.enough in
              let b = a.bounded in
              inl (record {
                known = ticked_by k c;
                link = r.link;
                rest = r.rest;
                goes = other_goes;
                left = a.left - k;
                later = more;
                in_time = omega (arith, l, more, one, some);
                ahead = q.1;
                time = a.time - k;
                enough = omega (arith, o, more, some);
                bounded = omega (arith, b);
                keen = still_keen;
              }))
          | inr q ↦ inr (goes_both (ticked_by k c) new r.link r.rest (each_side (λ u. Goes u new) s
              (heard_now s k c new one less q (sounds_now at w 1 (ticked_by k c) One Nothing s (mode at w s) new (able k (omega arith)) r.link)) other_goes))
        ]
      where
        longer : a.goes.next + 1 ≤ a.goes.known
        longer = goes_longer t old a.goes

        c : Side → ℕ
        c = two (peer t) a.goes.known 0

        short : (u : Side) → c u ≤ wait at w u
        short = two_less (peer t) (wait at w) a.goes.known 0 a.goes.fits (omega arith)

        link : Link 1 at w c One Nothing old
        link = forget 1 at w c (peer t) One Nothing old (known_by at w a.goes.known 1 a.known (peer t) (IsEnd 1 (w (peer t)) (w (peer (peer t))) a.goes.known)
            old (λ p e y. y) (join 1 at w a.known One (peer t) (IsEnd 1 (w (peer t)) (w (peer (peer t))) a.goes.known) old a.link a.goes.peer))

        r : Carried k c new
        r = carried k c old new h short link a.rest

        there : a.goes.known ≡ c (peer t)
        there = sym (two_there (peer t) a.goes.known 0)

        some_left : N + 1 ≤ c s
        some_left = let m = a.goes.later in subst (λ u. N + 1 ≤ c u) (peer_twice s) (subst (λ i. N + 1 ≤ i) there (omega (arith, longer, m)))

        able : (i : ℕ) → i ≤ k → CanSound (w s) (w (peer s)) (mode at w s) (c s - i)
        able i l = can_known at w s (c s - i) (omega (arith, some_left, l, less)) (awake s)

        quick : IsQuick (w (peer t))
        quick = (subst (λ u. activity (w u) ≡ true) (sym (peer_twice s)) on, fast)

        more_time : k + 1 ≤ a.time
        more_time = let l = a.enough in let m = a.later in omega (arith, l, m, less)

        still_keen : AtIt at w t (Keen (w (peer t)) (a.time - k)) new
        still_keen = keen_stays at w t quick gives k (few_ticks k less) c r.fits r.then a.time more_time a.bounded old new link h a.keen

        still_longer : N ≤ a.goes.next - k → Longer slack 0 (gap true) 0 (a.goes.next - k) (c (peer t) - k)
        still_longer m = subst (λ i. Longer slack 0 (gap true) 0 (a.goes.next - k) (i - k)) there (elim a.goes.longer [
          | inl l ↦ inl (omega (arith, l, m, one, less))
          | inr (l, o) ↦ inr (omega (arith, l), omega (arith, o, m, one, less))
        ])

        other_goes : Goes t new
        other_goes = went_on at w counts kept gives named N slack k leaves one less (few_ticks k less) 0 1 (gap true) 0 old new c t a.goes.next (omega arith)
            r.fits r.then short h link a.rest (keen_wakes at w t quick c a.time old link a.keen) still_longer
            (λ i. a.goes.told (omega (arith, longer))) (λ i. a.goes.took (omega (arith, longer)))
            (soon at w N some t (mode at w t) new (subst (λ b. AtIt at w t (Sounds b (silence_of b)) new) (sym fast)
            (keen_sounds at w t quick (ticked_by k c) (a.time - k) new r.link still_keen)))
            (subst (λ b. ((N ≤ a.goes.next - k) × AheadIn N at w t b (a.goes.next - k) new) ⊎ HearsIn k 1 at w counts kept c t new) (sym fast)
            (keen_near at w t quick gives k (few_ticks k less) c r.fits r.then a.time more_time a.bounded counts kept (inr (named (peer t))) N a.goes.next
            old new less link a.rest a.keen (subst (λ b. AheadIn N at w t b a.goes.next old) fast a.goes.ahead) h))

    -- behind so many rounds both are met

    answered_on : Room → (n : ℕ) (old new : WorldState) → Round old new → Answered n old → Answered (n + 1) new
    answered_on room n old new (k, one, less, h) (inl a) = answers_on room n k old new one less h a
    answered_on room n old new (k, one, less, h) (inr (inl (narrow, a))) = inr (elim (half_on narrow n k old new one less h a) [
      | inl y ↦ inl (narrow, y)
      | inr g ↦ inr g
    ])
    answered_on room n old new r (inr (inr g)) = inr (inr (met_on awake old new r g))

    answered : Room → (j : WorldState) → Answered last j → EarlyIn j
    answered room j (inl a) = let l = in_room room in let m = a.later in let o = a.in_time in absurd (omega (arith, l, m, o, some))
    answered room j (inr (inl (narrow, a))) = let m = a.later in let o = a.in_time in absurd (omega (arith, m, o, some))
    answered room j (inr (inr g)) = g

    -- from its first LACPDU on

    abbrev Comes : ℕ → WorldState → Type 0
    Comes n j = Calls s n j ⊎ Answered n j

    comes : Room → 1 + gap false ≤ most → activity (w s) ≡ true → (n : ℕ) (old new : WorldState) → Round old new → Comes n old → Comes (n + 1) new
    comes room few active n old new (k, one, less, h) (inl c) = elim (calls_on s active n k old new one less h c) [
      | inl m ↦ inl m
      | inr (q, l, rest) ↦ inr (inl (begins_answers s most (n + 1) k (λ _. 0) new (awake t) one less (omega (arith, l, few)) q rest
          (answers_now s k (λ _. 0) new less (awake t) q)))
    ]
    comes room few active n old new r (inr a) = inr (answered_on room n old new r a)

    came : Room → 1 + gap false ≤ most → (j : WorldState) → Comes last j → EarlyIn j
    came room few j (inl c) = let l = in_room room in let m = c.1 in let o = c.2 in absurd (omega (arith, l, m, o, some, few))
    came room few j (inr a) = answered room j a

  -- The other end alone is active, and has Long Timeout: then the end of s sends before it forgets it.

  module _ (s : Side) (active : activity (w (peer s)) ≡ true) (long : short_timeout (w (peer s)) ≡ false)
      (awake : (u : Side) → (activity (w u) ≡ true) ⊎ (activity (w (peer u)) ≡ true)) (last : ℕ)
      (room : Room s awake (1 + gap false + 300 + N) last) where
    abbrev u : Lacpdu
    u = w (peer s)

    abbrev none : Side → ℕ
    none = λ _. 0

    abbrev WaitsMost : ℕ
    WaitsMost = 1 + gap false + 300 + N

    record Waits (n : ℕ) (j : WorldState) : Type 0 where
      left : ℕ
      in_time : n + left ≤ WaitsMost
      link : Link 1 at w none One Nothing j
      rest : Rest j
      wakes : AtIt at w s (Wakeful (w s) u) j
      ahead : ((m : ℕ) × (left ≡ m + N) × AtIt at w s (LastingIn N u m) j) ⊎ ((1 ≤ left) × Said at w s Whoever j × Flies at s j)

    begins_waits : (n k : ℕ) (j : WorldState) → k ≤ N → n ≤ 1 + gap false → HearsIn k 1 at w counts kept none (peer s) j → Rest j → Waits n j
    begins_waits n k j less l q rest = let c = ticked_by k none in
        let learnt : Link 1 at w c s (Learnt 1 u (wait_of (w s) - k)) j =
        subst (λ x. Link 1 at w c x (Learnt 1 (w (peer x)) (wait_of (w x) - k)) j) (peer_twice s) q.link in
        let more = leaves (short_timeout (w s)) in
        let y = at_rest 1 at w c s (Learnt 1 u (wait_of (w s) - k)) (LastingIn N u 300) j
        (λ p settled timed a z. (let r = z.0.1 (omega (arith, more, less, loose)) in
        let o = r.1 in
        begins_lasting_in N u p active long z.0.0 settled timed (r.0, omega (arith, o, more, less, loose)))) learnt in
        record {
          left = 300 + N;
          in_time = omega (arith, l);
          link = lower at w c none One Nothing j (λ _. omega arith) (forget 1 at w c s One (LastingIn N u 300) j y);
          rest = rest;
          wakes = of_end y s (Wakeful (w s) u) (λ p settled timed a. inr (active, λ same. lasting_in_now N u 300 p active (a.1 refl)));
          ahead = inl (300, omega arith, of_end y s (LastingIn N u 300) (λ p settled timed a. a.1 refl));
        }

    waits_on : (n k : ℕ) (old new : WorldState) → 1 ≤ k → k ≤ N → TicksBeside k at OldArrive gives old new → Waits n old
        → Waits (n + 1) new ⊎ (HearsIn k 1 at w counts kept none s new × (n + 1 ≤ WaitsMost) × Rest new)
    waits_on n k old new one less h a = by_case a.ahead
      where
        r : Carried k none new
        r = carried k none old new h none_short a.link a.rest

        here : Link 1 at w none One Nothing new
        here = lower at w (ticked_by k none) none One Nothing new (λ _. omega arith) r.link

        by_case : ((m : ℕ) × (a.left ≡ m + N) × AtIt at w s (LastingIn N u m) old) ⊎ ((1 ≤ a.left) × Said at w s Whoever old × Flies at s old)
            → Waits (n + 1) new ⊎ (HearsIn k 1 at w counts kept none s new × (n + 1 ≤ WaitsMost) × Rest new)
        by_case (inr (more, said, flies)) = let l = a.in_time in
            inr (
              ticks_bring gives 1 at w counts kept s (omega arith) (inr (named (peer s))) k (few_ticks k less) none r.fits r.then One old new a.link a.wakes
                  a.rest said flies h,
              omega (arith, l, more),
              r.rest,
            )
        by_case (inl (m, same, lasting)) = let l = a.in_time in
            let before = join 1 at w none One s (LastingIn N u m) old a.link lasting in
            let more = (beside_here 1 at w none s (LastingIn N u m) old before).0 in
            elim (ticks_pass gives 1 at w counts kept s (omega arith) (inr (named (peer s))) k (few_ticks k less) none r.fits r.then
            (λ i. Phase u (Tail N i) (m - i)) (λ i. Phase u (NewTail N i) (m - i)) (LastingIn N u (m - k))
            (lasting_ticks (w s) u 1 N k m small less active (omega arith)) old new (join 1 at w none One s (Phase u (Tail N 0) (m - 0)) old a.link
            (of_end before s (Phase u (Tail N 0) (m - 0)) (λ p settled timed x. subst (λ i. Phase u (Tail N 0) i p) (sym (no_less m)) (x.1 refl).1)))
            a.wakes a.rest h) [
              | inl z ↦ (let left = (beside_here 1 at w (ticked_by k none) s (LastingIn N u (m - k)) new z).0 in
                  inl (record {
                    left = a.left - k;
                    in_time = omega (arith, l, same, left, one);
                    link = here;
                    rest = r.rest;
                    wakes = of_end z s (Wakeful (w s) u) (λ p settled timed x. inr (active, λ e. lasting_in_now N u (m - k) p active (x.1 refl)));
                    ahead = inl (m - k, omega (arith, same, left), of_end z s (LastingIn N u (m - k)) (λ p settled timed x. x.1 refl));
                  }))
              | inr (inl y) ↦ inl (record {
                left = a.left - k;
                in_time = omega (arith, l, same, more, one, less);
                link = here;
                rest = r.rest;
                wakes = y.0;
                ahead = inr (omega (arith, same, more, less), y.1, y.2);
              })
              | inr (inr q) ↦ inr (q, omega (arith, l, same, some), r.rest)
            ]

    abbrev Slowly : ℕ → WorldState → Type 0
    Slowly n j = Calls (peer s) n j ⊎ (Waits n j ⊎ Answered s awake WaitsMost last n j)

    slowly : (n : ℕ) (old new : WorldState) → Round old new → Slowly n old → Slowly (n + 1) new
    slowly n old new (k, one, less, h) (inl c) = elim (calls_on (peer s) active n k old new one less h c) [
      | inl m ↦ inl m
      | inr (q, l, rest) ↦ inr (inl (begins_waits (n + 1) k new less l q rest))
    ]
    slowly n old new (k, one, less, h) (inr (inl a)) = elim (waits_on n k old new one less h a) [
      | inl m ↦ inr (inl m)
      | inr (q, l, rest) ↦ inr (inr (inl (begins_answers s WaitsMost (n + 1) k none new (awake (peer s)) one less l q rest
          (answers_now s k none new less (awake (peer s)) q))))
    ]
    slowly n old new r (inr (inr a)) = inr (inr (answered_on s awake WaitsMost last room n old new r a))

    waited : (j : WorldState) → Slowly last j → EarlyIn j
    waited j (inl c) = let l = in_room s awake WaitsMost last room in let m = c.1 in let o = c.2 in absurd (omega (arith, l, m, o, some))
    waited j (inr (inl a)) = let l = in_room s awake WaitsMost last room in let o = a.in_time in elim a.ahead [
      | inl (m, same, lasting) ↦ absurd (omega (arith, l, o, same, some))
      | inr (more, said, flies) ↦ absurd (omega (arith, l, o, more))
    ]
    waited j (inr (inr a)) = answered s awake WaitsMost last room j a

  -- so many rounds

  module _ (n : ℕ) (many : 1 ≤ n) (old new : WorldState) (run : TickedRounds (LeavesPorts at) N gives n old new)
      (first : (j : WorldState) → Round old j → Link 1 at w (λ _. 0) One Nothing j × Rest j) where
    from_one : (s : Side) (active : activity (w s) ≡ true) → Room s (awake_at w s active) (1 + gap false) n → EarlyIn new
    from_one s active room = came s (awake_at w s active) (1 + gap false) n room (omega arith) new
        (rounds_on at gives N (Comes s (awake_at w s active) (1 + gap false) n) old
        (λ j r. let f = first j r in inl (called s active j f.0 f.1)) (comes s (awake_at w s active) (1 + gap false) n room (omega arith) active)
        n new many run)

    -- rounds have one tick, or there are rounds for one gap more
    abbrev pub Enough : Type 0
    Enough = ((N ≤ 1) × (1 + gap false + gap true ≤ n)) ⊎ (1 + gap false + gap true + gap true ≤ n)

    from_short : (s : Side) → activity (w s) ≡ true → short_timeout (w s) ≡ true → Enough → EarlyIn new
    from_short s active short enough = from_one s active
        (let fast = subst (λ u. short_timeout (w u) ≡ true) (sym (peer_twice s)) short in grind (arith, nat_tests))

    from_long : ((s : Side) → activity (w s) ≡ true) → ((s : Side) → mode at w s ≡ false) → 1 + gap false ≤ n → EarlyIn new
    from_long active long enough = lasted active long n new enough (rounds_on at gives N Lasts old
        (λ j r. let f = first j r in lasts_first active long j f.0 f.1) (lasts active long) n new many run)

    pub both_meet : ((s : Side) → activity (w s) ≡ true) → Enough → EarlyIn new
    both_meet active enough = elim (cases_Bool (short_timeout (w One))) [
      | inl a ↦ from_short One (active One) a enough
      | inr a ↦ elim (cases_Bool (short_timeout (w Two))) [
        | inl b ↦ from_short Two (active Two) b enough
        | inr b ↦ from_long active (each_side (λ s. mode at w s ≡ false) One b a) (elim enough [ inl (o, l) ↦ omega (arith, l) | inr l ↦ omega (arith, l) ])
      ]
    ]

    from_slow : (s : Side) → activity (w (peer s)) ≡ true → short_timeout (w (peer s)) ≡ false → short_timeout (w s) ≡ true
        → 1 + gap false + 300 + N + gap true ≤ n → EarlyIn new
    from_slow s active long short enough = waited s active long awake n room new (rounds_on at gives N (Slowly s active long awake n room) old
        (λ j r. let f = first j r in inl (called (peer s) active j f.0 f.1)) (slowly s active long awake n room) n new many run)
      where
        awake : (u : Side) → (activity (w u) ≡ true) ⊎ (activity (w (peer u)) ≡ true)
        awake = awake_at w (peer s) active

        fast : mode at w (peer s) ≡ true
        fast = subst (λ u. short_timeout (w u) ≡ true) (sym (peer_twice s)) short

        room : Room s awake (1 + gap false + 300 + N) n
        room = inl (rw (long, fast) (omega (arith, small)), rw fast enough)

    pub one_meets : (s : Side) → activity (w s) ≡ true → 1 + gap false + 300 + N + gap true ≤ n → EarlyIn new
    one_meets s active enough = elim (cases_Bool (short_timeout (w s))) [
      | inl short ↦ from_short s active short (inr (omega (arith, enough, small)))
      | inr long ↦ elim (cases_Bool (short_timeout (w (peer s)))) [
        | inl short ↦ from_slow (peer s) (subst (λ u. activity (w u) ≡ true) (sym (peer_twice s)) active)
            (subst (λ u. short_timeout (w u) ≡ false) (sym (peer_twice s)) long) short enough
        | inr wide ↦ (let slow : mode at w (peer s) ≡ false = subst (λ u. short_timeout (w u) ≡ false) (sym (peer_twice s)) long in
            from_one s active (inl (rw (wide, slow) (omega (arith, small)), rw slow (omega (arith, enough)))))
      ]
    ]

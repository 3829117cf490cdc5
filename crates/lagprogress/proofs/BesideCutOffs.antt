-- What is cut off does no harm: the other links come up beside it.
use Rattle.lagprogress.proofs.Common.{Bool, List, None, Ok, Option, Result, Some, [], ap, arith, false, if◌then◌else◌, inl, inr, not, refl, slice_get}
use Rattle.lagprogress.proofs.Common.{slice_set, subst, suc, sym, true, zero, ℕ, ◌&&◌, ◌++◌, ◌-◌, ◌==◌, ◌∙◌, ◌∷◌, ◌≡◌, ◌≤◌, ◌⊎◌, cases_Bool}
use Rattle.lagprogress.proofs.Common.{nat_tests, none-some, same_Some, AllByRecursion, Choice, Selected, Party, is_selected, same_system}
use Rattle.lagprogress.proofs.Common.{exact_system, system-itself, Info, Lacpdu, One, Side, Two, peer, value_of, ReceiveState, Defaulted, Machines}
use Rattle.lagprogress.proofs.Common.{mux_rows, periodic_rows, receive_rows, RunsToRest, after_sending, count_down, is_due, SystemFault, Received}
use Rattle.lagprogress.proofs.Common.{SystemPort, Carries, IsFrame, Receive, ReceivesAt, Step, Transmit, MuxIsSettled, occupied, TransmitsAt}
use Rattle.lagprogress.proofs.Common.{TransmitsIf, CallPromise, SystemState, port_index, can_receive_at_rest, all-get, found_place, ports_rise, Reply}
use Rattle.lagprogress.proofs.Common.{AfterTransmit, Algorithms, side_of, HalfState, ItemValue, LinkState, WorldState, change_link, half, link_at}
use Rattle.lagprogress.proofs.Common.{link_index, port_at, put_on_port, sent_on, towards, with_half, with_towards, set_elsewhere, set_here}
use Rattle.lagprogress.proofs.Common.{position_there, HostEvent, Plays, WantsAggregator, IsTimed, most_current_while, timeout_time, KeptBySettling}
use Rattle.lagprogress.proofs.Common.{OfEach, Step-each, asked_each, EnabledKeep, Unheard, begins, is_defaulted, no, not_down, receives, rested}
use Rattle.lagprogress.proofs.Common.{times_keep, unheard_settles, when_up, AtPort, at_number, mux_leaves, periodic_leaves, same_place}
use Rattle.lagprogress.proofs.Common.{settling_leaves, finds_aggregator, runs_keep, EnoughAggregators, EnoughLinks, OneIsActive}
use Rattle.lagprogress.proofs.Common.{NoneIsHeldBesideCutOffsByHosts, HostRounds, IsBetweenTicks, IsHostRound, NoneIsLeft, PlayedRounds, StepReplies}
use Rattle.lagprogress.proofs.Common.{OldArrive, IsHealthyAt, IsSteady}
use Rattle.lagbeside.proofs.Hearing.{counts}
use Rattle.lagprogress.specs.CutOff.{CutOffIsDefaulted, IsCutOff, EachLinkAgreesBesideCutOffs, EachLinkComesUpBesideCutOffs, IsBundleBesideCutOffs}
use Rattle.lagprogress.proofs.OneRound.{one_of_both}
use Rattle.lagprogress.proofs.Quieting.{asked_half, came_half, quiet_ports, quietly}
use Rattle.lagbeside.proofs.Told.{current_within}
use Rattle.lagprogress.proofs.EachRound.{EachAt, RoundKeeps, own_keeps, own_ticks, played_on, played_split, played_steady, tick_keeps, tick_makes}
use Rattle.lagprogress.proofs.EachRound.{clears_less, Pick, each_between, holds_once, tick_beside}
use Rattle.lagprogress.proofs.OneCable.{Comes, Sends, came_off, ticks}
use Rattle.lagprogress.proofs.HostRound.{KeptBetween, MadeByTick, both_made}
use Rattle.lagprogress.proofs.Lasting.{Alike, all_by_place, played_alike, played_before, ends_at, old_port, still_aggregators, still_links}
use Rattle.lagprogress.proofs.Bundling.{MeetsBy, agree_of, distribute_of, never_stands, once_kind, one_meets}
use Rattle.lagprogress.proofs.Climbing.{Ripe, Rising, rising_first, rising_rows, state_not}
use Rattle.lagprogress.proofs.LateLoops.{Emptied, rounds_emptied}
use Rattle.lagprogress.proofs.Freeing.{freed_by}
use Rattle.lagprogress.proofs.SharedLemmas.{enough_finds, none_held}
use Rattle.lagsystem.specs.declared.drive.Reply.TheVariants as answer
use Rattle.lagsystem.specs.declared.received.Received.TheVariants as received
use Rattle.lagscript.specs.declared.event.Event.TheVariants as event
use Rattle.slowpdu.specs.declared.pdu.Pdu.TheVariants as pdu
use Rattle.lagprogress.proofs.SeveralTicks.{Within}

-- A port that is cut off hears nothing, and is DEFAULTED in the end.

-- a port that is down says nothing

abbrev Dead : Machines → Type 0
Dead q = q.enabled ≡ false

abbrev pub DownAt : Side → ℕ → WorldState → Type 0
DownAt s n j = EachAt (AtPort n Dead) s j

dead_keeps : (n : ℕ) → RoundKeeps (AtPort n Dead)
dead_keeps = own_keeps (λ party up. up ≡ false)

says_none : (up due : Bool) (i : ℕ) (z : SystemPort) (old : SystemState) (frame : List ℕ) (new : SystemState) → up ≡ false
    → TransmitsIf up due i z old (Some frame) new → ⊥
says_none up due i z old frame new e h = grind (arith, nat_tests)

sends_none : (n : ℕ) (o : Option ℕ) (old : SystemState) (frame : List ℕ) (new : SystemState) → port_index n old.system_ports ≡ o
    → TransmitsAt o old (Some frame) new → OfEach (AtPort n Dead) old.system_ports → ⊥
sends_none n None old frame new e h a = h
sends_none n (Some i) old frame new e h a = says_none h.0.port.enabled (is_due h.0.port) i h.0 old frame new
    (all-get (λ (y : SystemPort). AtPort n Dead y.number y.port) old.system_ports i h.0 h.1 a (found_place n old.system_ports i h.0 e h.1)) h.2

answers_none : (n : ℕ) (o : Option ℕ) (octets : List ℕ) (old : SystemState) (frame : List ℕ) (new : SystemState)
    → port_index n old.system_ports ≡ o → ReceivesAt o octets old (received.Respond frame) new → OfEach (AtPort n Dead) old.system_ports → ⊥
answers_none n o octets old frame new hyp1 hyp2 hyp3 = grind (arith, nat_tests, none-some, all-get, found_place)

-- the item bears no LACPDU
abbrev BearsNone : ItemValue → Type 0
BearsNone item = (x : Lacpdu) → IsFrame item.octets (Carries (pdu.Lacpdu x)) → ⊥

abbrev Plain : List ItemValue → Type 0
Plain = AllByRecursion BearsNone

-- each cable of the port is cut or ends at such a port, and nothing on it towards the port bears an LACPDU, if b is not 0
abbrev pub CutAt : ℕ → Side → ℕ → (ℕ → Type 0) → List LinkState → Type 0
CutAt b s p M links = (i : ℕ) (l : LinkState) → slice_get links i ≡ Some l → port_at s l ≡ p
    → ((l.whole ≡ false) ⊎ M (port_at (peer s) l)) × (1 ≤ b → Plain (towards s l))

set_cut : (b : ℕ) (s : Side) (p k : ℕ) (M : ℕ → Type 0) (m new : LinkState) (links : List LinkState) → slice_get links k ≡ Some m
    → (port_at s new ≡ p → ((new.whole ≡ false) ⊎ M (port_at (peer s) new)) × (1 ≤ b → Plain (towards s new))) → CutAt b s p M links
    → CutAt b s p M (slice_set links k new)
set_cut b s p k M m new links there is cut i l h e = elim (cases_Bool (i == k)) [
  | inl t ↦ grind (arith, nat_tests, same_Some, slice_get, slice_set, set_here, port_at, peer, towards)
  | inr f ↦ (let other : i ≡ k → ⊥ = grind (arith, nat_tests) in cut i l (sym (set_elsewhere links k i new other) ∙ h) e)
]

-- a cable that is cut accepts nothing

lost : (w x : Bool) (xs ys : List ItemValue) → w ≡ false → (if w && x then ys else xs) ≡ xs
lost w x xs ys e = grind (arith, nat_tests)

sent_cut : (s u : Side) (item : ItemValue) (m : LinkState) → (u ≡ peer s → m.whole ≡ false) → towards s (sent_on u item m) ≡ towards s m
sent_cut s u item m cut = grind (arith, nat_tests, lost)

plain_last : (xs : List ItemValue) (item : ItemValue) → BearsNone item → Plain xs → Plain (xs ++ item ∷ [])
plain_last [] item none a = (none, tt)
plain_last (x ∷ xs) item none a = (a.0, plain_last xs item none a.1)

plain_if : (b : Bool) (xs : List ItemValue) (item : ItemValue) → BearsNone item → Plain xs → Plain (if b then xs ++ item ∷ [] else xs)
plain_if b xs item none a = grind (arith, nat_tests, plain_last)

sent_plain : (s u : Side) (item : ItemValue) (m : LinkState) → BearsNone item → Plain (towards s m) → Plain (towards s (sent_on u item m))
sent_plain s u item m none a = grind (arith, nat_tests, plain_if)

ends_stay : (M : ℕ → Type 0) (s u : Side) (item : ItemValue) (m : LinkState) → (m.whole ≡ false) ⊎ M (port_at (peer s) m)
    → ((sent_on u item m).whole ≡ false) ⊎ M (port_at (peer s) (sent_on u item m))
ends_stay M s u item m h = grind (arith, nat_tests)

joins_stay : (s u : Side) (item : ItemValue) (m : LinkState) → port_at s (sent_on u item m) ≡ port_at s m
joins_stay s u item m = grind (arith, nat_tests)

put_fine : (b : ℕ) (s u : Side) (p q : ℕ) (M : ℕ → Type 0) (item : ItemValue) (links : List LinkState)
    → ((k : ℕ) (m : LinkState) → link_index u q links ≡ Some k → slice_get links k ≡ Some m → (m.whole ≡ false) ⊎ M (port_at (peer s) m)
    → Plain (towards s m) → Plain (towards s (sent_on u item m)))
    → CutAt b s p M links → CutAt b s p M (put_on_port u q item links)
put_fine b s u p q M item links fine cut = by_index (link_index u q links) refl
  where
    by_link : (k : ℕ) (o : Option LinkState) → link_index u q links ≡ Some k → slice_get links k ≡ o
        → CutAt b s p M (change_link (Some k) (sent_on u item) o links)
    by_link k None e h = cut
    by_link k (Some m) e h = set_cut b s p k M m (sent_on u item m) links h (λ f. (let c = cut k m h (sym (joins_stay s u item m) ∙ f) in (
      ends_stay M s u item m c.0,
      λ l. fine k m e h c.0 (c.1 l),
    ))) cut

    by_index : (o : Option ℕ) → link_index u q links ≡ o → CutAt b s p M (change_link o (sent_on u item) (link_at o links) links)
    by_index None e = cut
    by_index (Some k) e = by_link k (slice_get links k) e refl

put_cut : (b : ℕ) (s u : Side) (p q : ℕ) (M : ℕ → Type 0) (item : ItemValue) (links : List LinkState) → (u ≡ peer s → M q → ⊥)
    → CutAt b s p M links → CutAt b s p M (put_on_port u q item links)
put_cut b s u p q M item links not cut =
    put_fine b s u p q M item links (λ k m e h c a. subst Plain (sym (sent_cut s u item m (whole k m e h c))) a) cut
  where
    whole : (k : ℕ) (m : LinkState) → link_index u q links ≡ Some k → slice_get links k ≡ Some m
        → (m.whole ≡ false) ⊎ M (port_at (peer s) m) → u ≡ peer s → m.whole ≡ false
    whole k m e h (inl w) f = w
    whole k m e h (inr far) f =
        absurd (not f (subst M (ap (λ (t : Side). port_at t m) (sym f) ∙ position_there u q links k m e h) far))

-- what each event leaves of it

transmitted_cut : (b : ℕ) (s : Side) (p : ℕ) (M : ℕ → Type 0) (v : Side) (q : ℕ) (a : Result (Option (List ℕ)) SystemFault) (mid : HalfState)
    (r : Reply) (old new : WorldState) → ((frame : List ℕ) → a ≡ Ok (Some frame) → v ≡ peer s → M q → ⊥)
    → AfterTransmit v q a (with_half v mid old) r new → CutAt b s p M old.links → CutAt b s p M new.links
transmitted_cut b s p M v q (Ok (Some frame)) mid r old new not h cut =
    subst (λ (j : WorldState). CutAt b s p M j.links) (sym h.1) (put_cut b s v p q M _ old.links (not frame refl) cut)
transmitted_cut b s p M v q a mid r old new not h cut = subst (λ (j : WorldState). CutAt b s p M j.links) (sym h.1) cut

-- the ports that are meant are down
abbrev pub Downs : (ℕ → Type 0) → Side → WorldState → Type 0
Downs M s j = (n : ℕ) → M n → DownAt s n j

says_no : (gives : ℕ → ℕ → ℕ → Type 0) (n : ℕ) (a : Result (Option (List ℕ)) SystemFault) (old new : SystemState) (frame : List ℕ)
    → a ≡ Ok (Some frame) → Step gives old (Transmit n) (answer.Transmit a) new → OfEach (AtPort n Dead) old.system_ports → ⊥
says_no gives n a old new frame e h d = grind (arith, nat_tests, sends_none, port_index)

sends_cut : (b : ℕ) (s v : Side) (p q : ℕ) (M : ℕ → Type 0) (a : Result Received SystemFault) (old new : List LinkState)
    → ((frame : List ℕ) → a ≡ Ok (received.Respond frame) → v ≡ peer s → M q → ⊥) → Sends v q a old new → CutAt b s p M old → CutAt b s p M new
sends_cut b s v p q M (Ok (received.Respond frame)) old new not h cut =
    subst (CutAt b s p M) (sym h) (put_cut b s v p q M _ old (not frame refl) cut)
sends_cut b s v p q M a old new not h cut = subst (CutAt b s p M) (sym h) cut

same_taken : (s : Side) (rest : List ItemValue) (m : LinkState) → towards s (with_towards s rest m) ≡ rest
same_taken s rest m = grind (arith, nat_tests)

other_taken : (s : Side) (rest : List ItemValue) (m : LinkState) → towards s (with_towards (peer s) rest m) ≡ towards s m
other_taken s rest m = grind (arith, nat_tests)

taken_cut : (b : ℕ) (s v : Side) (m : LinkState) (rest : List ItemValue) (item : ItemValue) → towards v m ≡ item ∷ rest
    → (1 ≤ b → Plain (towards s m)) → (v ≡ s) ⊎ (v ≡ peer s) → 1 ≤ b → Plain (towards s (with_towards v rest m))
taken_cut b s v m rest item first none at l = grind (arith, nat_tests, same_taken, other_taken)

ends_left : (M : ℕ → Type 0) (s v : Side) (rest : List ItemValue) (m : LinkState) → (m.whole ≡ false) ⊎ M (port_at (peer s) m)
    → ((with_towards v rest m).whole ≡ false) ⊎ M (port_at (peer s) (with_towards v rest m))
ends_left M s v rest m h = grind (arith, nat_tests)

joins_left : (s v : Side) (rest : List ItemValue) (m : LinkState) → port_at s (with_towards v rest m) ≡ port_at s m
joins_left s v rest m = grind (arith, nat_tests)

replies_no : (gives : ℕ → ℕ → ℕ → Type 0) (n : ℕ) (octets : List ℕ) (a : Result Received SystemFault) (old new : SystemState) (frame : List ℕ)
    → a ≡ Ok (received.Respond frame) → Step gives old (Receive n octets) (answer.Receive a) new → OfEach (AtPort n Dead) old.system_ports → ⊥
replies_no gives n octets a old new frame e h d = answers_none n (port_index n old.system_ports) octets old frame new refl
    (subst (λ b. Step gives old (Receive n octets) (answer.Receive b) new) e h) d

comes_cut : (gives : Algorithms) (b : ℕ) (s v : Side) (p k : ℕ) (M : ℕ → Type 0) (m : LinkState) (old new : WorldState)
    → slice_get old.links k ≡ Some m → Comes gives v k m old new → Downs M (peer s) old → CutAt b s p M old.links → CutAt b s p M new.links
comes_cut gives b s v p k M m old new there c down cut =
    sends_cut b s v p (port_at v m) M c.a (slice_set old.links k (with_towards v c.rest m)) new.links
    (λ frame e same dead. replies_no (gives v) (port_at v m) c.item.octets c.a (half v old).state (half v new).state frame e c.promise.step
    (subst (λ t. DownAt t (port_at v m) old) (sym same) (down (port_at v m) dead))) c.sends
    (set_cut b s p k M m (with_towards v c.rest m) old.links there (λ f. (let was = cut k m there (sym (joins_left s v c.rest m) ∙ f) in (
      ends_left M s v c.rest m was.0,
      taken_cut b s v m c.rest c.item c.first was.1 (one_of_both s v),
    ))) cut)

-- what each event between ticks leaves of it
cut_between : (gives : Algorithms) (b : ℕ) (s : Side) (p : ℕ) (M : ℕ → Type 0) (e : HostEvent) (r : Reply) (old new : WorldState) → IsBetweenTicks e
    → StepReplies gives old e r new → Downs M (peer s) old → CutAt b s p M old.links → CutAt b s p M new.links
cut_between gives b s p M (Plays (event.Emit n q)) r old new x h down cut = let v = value_of (side_of n) _ h.0 in
    let w = v.2 in
    transmitted_cut b s p M v.0 q w.0 w.1 r old (record new { acted = old.acted })
    (λ frame e same dead. says_no (gives v.0) q w.0 (half v.0 old).state w.1.state frame e w.2.answers.step
    (subst (λ t. DownAt t q old) (sym same) (down q dead))) w.3 cut
cut_between gives b s p M (Plays (event.Deliver cn n)) r old new x h down cut = elim (came_off gives cn n r old new h) [
  | inl m ↦ comes_cut gives b s m.side p m.index M m.link old new m.there m.comes down cut
  | inr m ↦ subst (CutAt b s p M) (sym m.links) cut
]
cut_between gives b s p M e r old new x h down cut = let k = quietly gives e r old new x h in
    elim k.1.links [
      | inl same ↦ subst (CutAt b s p M) (sym same) cut
      | inr m ↦ subst (CutAt b s p M) (sym m.sent) (put_fine b s k.0 p m.port M m.item old.links
          (λ i l f g c y. sent_plain s k.0 m.item l m.plain y) cut)
    ]

-- the cables of the port, and the ports that are down at their other ends
abbrev pub Severed : ℕ → Side → ℕ → (ℕ → Type 0) → WorldState → Type 0
Severed b s p M j = CutAt b s p M j.links × Downs M (peer s) j

severed_between : (gives : Algorithms) (b : ℕ) (s : Side) (p : ℕ) (M : ℕ → Type 0) → KeptBetween gives (Severed b s p M)
severed_between gives b s p M e r i j x h a = (
  cut_between gives b s p M e r i j x h a.1 a.0,
  λ m dead. each_between (AtPort m Dead) (dead_keeps m) (peer s) gives e r i j x h (a.1 m dead),
)

severed_tick : (gives : Algorithms) (b : ℕ) (s : Side) (p : ℕ) (M : ℕ → Type 0) (t : Side) → MadeByTick gives t (Severed b s p M) (Severed b s p M)
severed_tick gives b s p M t n r i j named step a = (
  subst (CutAt b s p M) (sym (ticks gives n t r i j named step).links) a.0,
  λ m dead. tick_keeps (AtPort m Dead) (dead_keeps m).settles (own_ticks (λ party up. up ≡ false) m) (peer s) t gives n r i j named step
      (a.1 m dead),
)

-- the port hears nothing: what settling and sending keep of it, a round keeps

pub record KeptUnheard (p : ℕ) (Q : Machines → Type 0) : Type 0 where
  pub settles : KeptBySettling (AtPort p Q)
  pub sends : (q : Machines) → Q q → Q (after_sending q)

abbrev Silent : ℕ → (ℕ → Type 0) → (Machines → Type 0) → Side → WorldState → Type 0
Silent p M Q s j = EachAt (AtPort p Q) s j × Severed 1 s p M j

module _ (p : ℕ) (M : ℕ → Type 0) (Q : Machines → Type 0) (keeps : KeptUnheard p Q) (gives : Algorithms) (s : Side) where
  ports_between : (e : HostEvent) (r : Reply) (i j : WorldState) → IsBetweenTicks e → StepReplies gives i e r j → Silent p M Q s i → EachAt (AtPort p Q) s j
  ports_between (Plays (event.Emit n q)) r i j x h a = elim (asked_half gives n q r i j h s) [
    | inl same ↦ subst (λ (z : SystemState). OfEach (AtPort p Q) z.system_ports) (sym same) a.0
    | inr (b, step) ↦ asked_each (AtPort p Q) (λ m x c e. keeps.sends x (c e)) (gives s) q b (half s i).state (half s j).state step a.0
  ]
  ports_between (Plays (event.Deliver cn n)) r i j x h a = elim (came_half gives cn n r i j h s) [
    | inl same ↦ subst (λ (z : SystemState). OfEach (AtPort p Q) z.system_ports) (sym same) a.0
    | inr (k, l, there, c) ↦ Step-each (AtPort p Q) keeps.settles (gives s) (half s i).state (Receive (port_at s l) c.item.octets)
        (answer.Receive c.a) (half s j).state (λ v x y took came does d e. absurd (let lacpdu =
        (subst (λ x. CallPromise (gives s) (half s i).state (Receive (port_at s l) c.item.octets) x (half s j).state) took c.promise).moves.3 in
        (subst Plain c.first ((a.1.0 k l there e).1 (omega arith))).0 lacpdu.0 lacpdu.1)) c.promise.step a.0
  ]
  ports_between e r i j x h a = subst (OfEach (AtPort p Q)) (sym (quiet_ports gives e r i j x h s)) a.0

  silent_between : KeptBetween gives (Silent p M Q s)
  silent_between e r i j x h a = (ports_between e r i j x h a, severed_between gives 1 s p M e r i j x h a.1)

-- P before the tick of the system, Q after it
abbrev NowSilent : ℕ → (ℕ → Type 0) → (P Q : Machines → Type 0) → Side → ℕ → WorldState → Type 0
NowSilent p M P Q s x j = EachAt (Pick (AtPort p P) (AtPort p Q) x) s j × Severed 1 s p M j

-- where its tick makes Q of P
pub cut_round : (p : ℕ) (M : ℕ → Type 0) (P Q : Machines → Type 0) → KeptUnheard p P → KeptUnheard p Q
    → ((x y : Machines) → RunsToRest receive_rows (count_down x) y → P x → Q y) → (gives : Algorithms) (s : Side) (old new : WorldState)
    → IsHostRound gives old new → EachAt (AtPort p P) s old × Severed 1 s p M old → EachAt (AtPort p Q) s new × Severed 1 s p M new
cut_round p M P Q kp kq counted gives s old new h a = holds_once gives s (λ x y. NowSilent p M P Q s x) kept
    (λ y l. both_made gives s (tick_makes (AtPort p P) (AtPort p Q) kq.settles (λ m x z run c e. counted x z run (c e)) s gives)
    (severed_tick gives 1 s p M s))
    (λ x l. both_made gives (peer s) (tick_beside (Pick (AtPort p P) (AtPort p Q) x) s gives) (severed_tick gives 1 s p M (peer s))) old new h a
  where
    kept : (x y : ℕ) → Within 1 x y → KeptBetween gives (NowSilent p M P Q s x)
    kept zero y l = silent_between p M P kp gives s
    kept (suc x) y l = silent_between p M Q kq gives s

abbrev Deaf : ℕ → ℕ → ℕ → Machines → Type 0
Deaf p most = AtPort p (Unheard 1 most)

deaf_keeps : (p most : ℕ) → KeptUnheard p (Unheard 1 most)
deaf_keeps p most = record { settles = unheard_settles p most 0; sends = λ q y. y }

deaf_ticks : (most : ℕ) (x y : Machines) → RunsToRest receive_rows (count_down x) y → Unheard 1 most x → Unheard 1 (most - 1) y
deaf_ticks most x y h a = let b = receives 0 (most - 1) (count_down x) y h (a.0, counts most x.current_while x.receive a.1) in
    (b.0, rested (most - 1) y.current_while y.receive h.2.1.1.1.0 h.2.1.1.1.1.0 b.1)

-- where it begins

long_most : (r : ReceiveState) (n : ℕ) → n ≤ most_current_while r → n ≤ timeout_time false
long_most r n l = let m = current_within r in omega (arith, l, m)

deaf_first : (s : Side) (j : WorldState) (k : ℕ) (z : SystemPort) → IsSteady j → slice_get (half s j).state.system_ports k ≡ Some z
    → z.port.enabled ≡ true → Unheard 1 930 z.port
deaf_first s j k z hyp1 hyp2 hyp3 = grind (arith, nat_tests, can_receive_at_rest, all-get, true, begins, false, when_up, long_most)

-- the ports of a system whose links were down
abbrev pub WereDown : Side → WorldState → ℕ → Type 0
WereDown s old n = DownAt s n old

-- after its first round nothing is on its cables towards it, and the port counts
deaf_since : (gives : Algorithms) (n k : ℕ) (s : Side) (x : SystemPort) (old new : WorldState) → IsSteady old
    → slice_get (half s old).state.system_ports k ≡ Some x → x.port.enabled ≡ true → IsCutOff s x.number old → 931 ≤ n → HostRounds gives n old new
    → EachAt (Deaf x.number (930 - (n - 1))) s new × Severed 1 s x.number (WereDown (peer s) old) new
deaf_since gives n k s x old new steady there up cut enough h = let p = x.number in
    let M : ℕ → Type 0 = WereDown (peer s) old in
    let parts = played_split NoneIsLeft gives (n - 1) 1 n old new (omega (arith, enough)) h in
    let mid = parts.0 in
    let one = parts.1 in
    let calm = played_steady NoneIsLeft gives 1 old mid steady one in
    let round = subst (λ j. IsHostRound gives j mid) one.1 one.2 in
    let start : Severed 0 s p M old = (
      λ i l e f. (
        elim (cut i l e f) [
          | inl w ↦ inl w
          | inr far ↦ inr (all_by_place (λ z. AtPort (port_at (peer s) l) Dead z.number z.port) (half (peer s) old).state.system_ports
              (λ m z there same. far m z there same))
        ],
        λ z. absurd (omega (arith, z)),
      ),
      λ m dead. dead,
    ) in
    let still = (holds_once gives One (λ x y. Severed 0 s p M) (λ x y l. severed_between gives 0 s p M) (λ y l. severed_tick gives 0 s p M One)
    (λ x l. severed_tick gives 0 s p M Two) old mid round start) in
    let empty : Severed 1 s p M mid = (λ i l e f. ((still.0 i l e f).0, λ z. subst Plain (sym (one.2.empties s i l e)) tt), still.1) in
    let alike = played_alike NoneIsLeft gives 1 old mid steady one s k x there in
    let first : EachAt (Deaf p 930) s mid = all_by_place (λ z. Deaf p 930 z.number z.port) (half s mid).state.system_ports
    (λ i z e f. deaf_first s mid i z calm e ((all-get (λ (q : SystemPort). AtPort p (Alike x.port) q.number q.port)
    (half s mid).state.system_ports i z e alike f).1 ∙ up)) in
    played_on NoneIsLeft gives (λ m j. EachAt (Deaf p (930 - m)) s j × Severed 1 s p M j) mid
    (subst (λ m. EachAt (Deaf p m) s mid) (omega arith) first, empty)
    (λ m i j q a. subst (λ w. EachAt (Deaf p w) s j × Severed 1 s p M j) (omega arith)
    (cut_round p M (Unheard 1 (930 - m)) (Unheard 1 (930 - m - 1)) (deaf_keeps p (930 - m)) (deaf_keeps p (930 - m - 1))
    (λ x y run z. deaf_ticks (930 - m) x y run z) gives s i j q a)) (n - 1) new parts.2

pub cut_off_is_defaulted_by_hosts : (gives : Algorithms) → CutOffIsDefaulted HostRounds gives
cut_off_is_defaulted_by_hosts gives = grind (arith, nat_tests, deaf_since, played_before, same_place, all-get, is_defaulted)

-- a port that hears nothing and is DEFAULTED stays as it is

-- DEFAULTED, with its link up and with this partner
abbrev Idle : Info → Machines → Type 0
Idle c q = (q.enabled ≡ true) × (q.receive ≡ Defaulted) × (q.partner ≡ c)

still_rows : (c : Info) (o : Machines) → EnabledKeep (λ r. Idle c r × (r ≡ o)) receive_rows
still_rows c o = grind (arith, nat_tests, state_not, not_down)

idle_ticks : (c : Info) (p q : Machines) → RunsToRest receive_rows (count_down p) q → Idle c p → q ≡ count_down p
idle_ticks c p q h a = (times_keep (λ r. Idle c r × (r ≡ count_down p)) receive_rows (still_rows c (count_down p)) h.0 (count_down p) q h.1
    (a, refl)).1

-- and climbs
abbrev IdleRising : Info → ℕ → Machines → Type 0
IdleRising c t q = Idle c q × Rising t q

climbing_settles : (n : ℕ) (c : Info) (t : ℕ) → KeptBySettling (AtPort n (IdleRising c t))
climbing_settles n c t = record {
  mux = λ m ready p q h a e. (
    mux_leaves (Idle c) ready p q h (a e).0,
    times_keep (Rising t) (mux_rows ready) (rising_rows t ready) h.0 p q h.1 (a e).1,
  );
  periodic = λ m p q h a e. (
    periodic_leaves (Idle c) p q h (a e).0,
    subst (Rising t) (sym h.2) (runs_keep (Rising t) periodic_rows
        (λ p a. a, (λ p a. a, (λ p a. a, (λ p a. a, (λ p a. a, (λ p a. a, (λ p a. a, tt))))))) p h.0 h.1 (a e).1),
  );
  select = λ m choice p none may a e. absurd (no (sym none ∙ (a e).1.0));
}

climbing_ticks : (c : Info) (t : ℕ) (p q : Machines) → RunsToRest receive_rows (count_down p) q → IdleRising c t p → IdleRising c (t - 1) q
climbing_ticks c t p q h a = subst (IdleRising c (t - 1)) (sym (idle_ticks c p q h a.0)) (a.0, (a.1.0, grind (arith, nat_tests)))

-- so it has risen if it is SELECTED

chosen_occupies : (c : Choice) → is_selected c ≡ true → (g : ℕ) × (occupied c ≡ Some g)
chosen_occupies (Selected agg) h = (agg.0, refl)
chosen_occupies c h = absurd (no h)

module _ (gives : Algorithms) (s : Side) (k : ℕ) (x : SystemPort) (mid top : WorldState) (steady : IsSteady mid)
    (aggregators : EnoughAggregators (half s mid).state) (links : EnoughLinks (half s mid).state)
    (there : slice_get (half s mid).state.system_ports k ≡ Some x) (up : x.port.enabled ≡ true) (defaulted : x.port.receive ≡ Defaulted)
    (M : ℕ → Type 0) (cut : Severed 1 s x.number M mid) (more : HostRounds gives 20 mid top) where
  abbrev c : Info
  c = x.port.partner

  abbrev st : SystemState
  st = (half s mid).state

  idle_keeps : KeptUnheard x.number (Idle c)
  idle_keeps = record { settles = settling_leaves (AtPort x.number (Idle c)); sends = λ p y. y }

  climbing : (t : ℕ) → KeptUnheard x.number (IdleRising c t)
  climbing t = record { settles = climbing_settles x.number c t; sends = λ p y. y }

  stays : EachAt (AtPort x.number (Idle c)) s top
  stays = (played_on NoneIsLeft gives (λ m j. EachAt (AtPort x.number (Idle c)) s j × Severed 1 s x.number M j) mid
      (at_number (Idle c) 0 st.system_ports k x (ports_rise st (steady s).0.ports) there (up, defaulted, refl), cut)
      (λ m i j q a. cut_round x.number M (Idle c) (Idle c) idle_keeps idle_keeps
      (λ p r run y. subst (Idle c) (sym (idle_ticks c p r run y)) y) gives s i j q a) 20 top more).0

  climbs : is_selected x.port.choice ≡ true → EachAt (AtPort x.number (IdleRising c 0)) s top
  climbs sel = let mux = (all-get (MuxIsSettled st.keys st.system_ports) st.system_ports k x there (steady s).0.quiet.0).mux in
      let timed = all-get (λ (z : SystemPort). IsTimed z.port) st.system_ports k x there (steady s).1 in
      let first : EachAt (AtPort x.number (IdleRising c 20)) s mid = at_number (IdleRising c 20) 0 st.system_ports k x
      (ports_rise st (steady s).0.ports) there ((up, defaulted, refl), rising_first x.port mux timed sel) in
      let last = played_on NoneIsLeft gives (λ m j. EachAt (AtPort x.number (IdleRising c (20 - m))) s j × Severed 1 s x.number M j) mid
      (subst (λ t. EachAt (AtPort x.number (IdleRising c t)) s mid) (omega arith) first, cut)
      (λ m i j q a. subst (λ t. EachAt (AtPort x.number (IdleRising c t)) s j × Severed 1 s x.number M j) (omega arith)
      (cut_round x.number M (IdleRising c (20 - m)) (IdleRising c (20 - m - 1)) (climbing (20 - m)) (climbing (20 - m - 1))
      (λ p r run y. climbing_ticks c (20 - m) p r run y) gives s i j q a)) 20 top more in
      subst (λ t. EachAt (AtPort x.number (IdleRising c t)) s top) (omega arith) last.0

  ripe : (y : SystemPort) → slice_get (half s top).state.system_ports k ≡ Some y → y.number ≡ x.number → Ripe 0 y.port
  ripe y at number = elim (cases_Bool (same_system c.system x.port.party.system)) [
    | inl own ↦ (λ sel. (let o = chosen_occupies y.port.choice sel in
        let still = all-get (λ (z : SystemPort). AtPort x.number (Idle c) z.number z.port) (half s top).state.system_ports k y at stays number in
        let alike = (played_before NoneIsLeft gives 20 mid top steady more s).alike k x y there at in
        let same : y.port.partner.system ≡ y.port.party.system = ap (λ (i : Info). i.system) still.2
        ∙ (exact_system c.system x.port.party.system own ∙ sym (ap (λ (q : Party). q.system) alike.0)) in
        absurd ((played_steady NoneIsLeft gives 20 mid top steady more s).0.occupants.apart k o.0 y at o.1 same)))
    | inr other ↦ (λ sel. (all-get (λ (z : SystemPort). AtPort x.number (IdleRising c 0) z.number z.port) (half s top).state.system_ports k y at
        (climbs (chosen other)) number).1.1)
  ]
    where
      chosen : same_system c.system x.port.party.system ≡ false → is_selected x.port.choice ≡ true
      chosen other = let wants : WantsAggregator x.port = record {
        up = up;
        known = inr defaulted;
        apart = λ e. no (sym other ∙ (ap (λ z. same_system z x.port.party.system) e ∙ system-itself x.port.party.system));
      } in
          elim (finds_aggregator st k x (steady s).0 there wants (none_held st k x (steady s).2 there) (aggregators k x there up)) [
            | inl h ↦ h
            | inr h ↦ absurd (never_stands st k x h.0 (steady s).0 links there h.1)
          ]

-- the laws

module _ (gives : Algorithms) (old : WorldState) (b : IsBundleBesideCutOffs old) where
  never : (s : Side) (i : ℕ) (l : LinkState) → IsHealthyAt i l old → IsCutOff s (port_at s l) old → ⊥
  never s i l y cut = elim (cut i l y.there refl) [
    | inl w ↦ no (sym w ∙ y.whole)
    | inr far ↦ (let e = ends_at i l old y (peer s) in
        no (sym (far e.0 e.1 e.3 (found_place (port_at (peer s) l) (half (peer s) old).state.system_ports e.0 e.1 e.2 e.3)) ∙ e.4))
  ]

  are_hosts : (n : ℕ) (i j : WorldState) → PlayedRounds Emptied gives n i j → HostRounds gives n i j
  are_hosts n i j h = clears_less Emptied NoneIsLeft (λ events i j clears. clears.1) gives n i j h

  idle : (mid top : WorldState) → HostRounds gives 931 old mid → HostRounds gives 20 mid top → (s : Side) (k : ℕ) (z y : SystemPort)
      → slice_get (half s old).state.system_ports k ≡ Some z → z.port.enabled ≡ true → IsCutOff s z.number old
      → slice_get (half s top).state.system_ports k ≡ Some y → Ripe 0 y.port
  idle mid top h more s k z y there up cut now = let steady = played_steady NoneIsLeft gives 931 old mid b.steady h in
      let first = played_before NoneIsLeft gives 931 old mid b.steady h s in
      let since = played_before NoneIsLeft gives 20 mid top steady more s in
      let x = old_port (half s mid).state.system_ports (half s top).state.system_ports k y since.numbers now in
      let was = old_port (half s old).state.system_ports (half s mid).state.system_ports k x.0 first.numbers x.1 in
      let same : was.0 ≡ z = same_Some was.0 z (sym was.1 ∙ there) in
      let number : x.0.number ≡ z.number = was.2 ∙ ap (λ (q : SystemPort). q.number) same in
      ripe gives s k x.0 mid top steady (still_aggregators s old mid first (b.aggregators s)) (still_links s old mid first (b.links s)) x.1
      ((first.alike k z x.0 there x.1).1 ∙ up)
      (cut_off_is_defaulted_by_hosts gives 931 k s z x.0 old mid b.steady there up cut (omega arith) h x.1)
      (WereDown (peer s) old) (subst (λ n. Severed 1 s n (WereDown (peer s) old) mid) (sym number) (deaf_since gives 931 k s z old mid b.steady there up cut (omega arith) h).1) more y now x.2

  beside : MeetsBy (PlayedRounds Emptied gives) 1 OneIsActive (λ s n. IsCutOff s n old) 931 gives old
  beside = record {
    steady = b.steady;
    cabling = b.cabling;
    differ = b.differ;
    heard = b.heard;
    kind = once_kind Emptied (λ events i j clears. clears.0) gives;
    finds = λ mid h s. enough_finds s mid (played_steady Emptied gives 931 old mid b.steady h)
        (still_aggregators s old mid (played_before Emptied gives 931 old mid b.steady h s) (b.aggregators s));
    links = b.links;
    never = never;
    idle = λ mid top h more s k z y there up cut now. idle mid top (are_hosts 931 old mid h) (are_hosts 20 mid top more) s k z y there up cut now;
    meets = λ i l h a mid r. (one_meets gives).meet 931 old mid b.cabling b.steady i l h a (omega arith)
        (clears_less Emptied OldArrive (λ events i j clears. clears.0) gives 931 old mid r);
    wakes = (one_meets gives).wake old;
  }

pub each_link_comes_up_beside_by_hosts : (gives : Algorithms) → EachLinkComesUpBesideCutOffs HostRounds gives
each_link_comes_up_beside_by_hosts gives n i l old new b y enough h = distribute_of (PlayedRounds Emptied gives) 1 OneIsActive
    (λ s n. IsCutOff s n old) 931 gives old (beside gives old b) i l y n 0 new new enough (rounds_emptied gives n old new b.cabling h) refl

pub each_link_agrees_beside_by_hosts : (gives : Algorithms) → EachLinkAgreesBesideCutOffs HostRounds gives
each_link_agrees_beside_by_hosts gives n i l old new sound b y enough h = agree_of (PlayedRounds Emptied gives) 1 OneIsActive
    (λ s n. IsCutOff s n old) 931 gives old (beside gives old b) i l y n 0 new new enough (rounds_emptied gives n old new b.cabling h) refl sound

pub none_is_held_beside_by_hosts : (gives : Algorithms) → NoneIsHeldBesideCutOffsByHosts gives
none_is_held_beside_by_hosts gives n m i l old mid new s g k b y enough h late more left =
    freed_by Emptied OneIsActive (λ s n. IsCutOff s n old) 931 gives old (beside gives old b) i l y n m mid new s g k (omega (arith, enough))
    (rounds_emptied gives n old mid b.cabling h) late more left

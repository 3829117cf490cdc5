-- Each event of a fleet is an event of its network.
use native.Mathlib.Omega.{arith}
use Rattle.std.proofs.Common.{Bool, Err, List, None, Ok, Option, Some, [], ap, cond, inr, refl, subst, sym, true, ℕ, ◌++◌, ◌∙◌, ◌∷◌, ◌≡◌}
use Rattle.lagtypes.specs.declared.identifiers.AggId.{AggId}
use Rattle.lagmodel.specs.Move.{Act, LawfulMoves}
use Rattle.lagmodel.specs.Succession.{IsAlikeSetup, IsSuccessor}
use Rattle.lagmodel.specs.View.{ModelCall, SystemSetup, View, first_view}
use Rattle.lagmodel.specs.World.{Control, Data, Message, at_two, sent_after, taken_after}
use Rattle.lagnetwork.specs.Network.{Configure, CountsNetworkChanges, Cut, Deliver, DeliversFirstAt, Emit, Frees, Hear, IsNetworkSetup, Join, Lose}
use Rattle.lagnetwork.specs.Network.{Move_conversation, Network, NetworkCall, NetworkEvent, NetworkHappens, NetworkRun, NetworkSetup, Offer, Overtake}
use Rattle.lagnetwork.specs.Network.{Place, Plug, Pull, Repeat, RepeatsFirstAt, Restart, Sense, Succeed, Tick, also_forced, at_system, ends_at}
use Rattle.lagnetwork.specs.Network.{first_network, freed_view, handed_up_from, network_after_acts, recabled, recabled_all, source_after}
use Rattle.lagnetwork.specs.Network.{towards_after, without_first, Force}
use Rattle.lagnetwork.specs.NetworkLaw.{CablesStay, IsNetworkInvariant, TookFromFixedEnd}
use Rattle.lagnetwork.proofs.NetworkCalls.{calls_from}
use Rattle.lagnetwork.proofs.NetworkEvents.{recabled_joined, runs_joined}
use Rattle.lagnetwork.proofs.Networks.{AllFine, by_system, elsewhere, there}
use Rattle.lagnetwork.proofs.NetworkLaws.{holds}
use Rattle.lagsystem.specs.declared.drive.HostCall.{HostCall}
use Rattle.lagsystem.specs.declared.drive.HostReply.{HostReply}
use Rattle.lagsystem.specs.declared.drive.Reply.{Reply}
use Rattle.lagsystem.specs.Calls.{Call}
use Rattle.lagsystem.specs.ModelView.{model_setup, model_view}
use Rattle.lagsystem.specs.State.{SystemState}
use Rattle.lagsystem.proofs.FirstView.{configured_setup, first_shows}
use Rattle.lagfleet.specs.Doing.{Doing, Forces, Leaves, Makes, Offers, Probes, Rests, Sets}
use Rattle.lagfleet.specs.Fleet.{Answers, Asks_call, Befalls, Changes_setting, Fleet, FleetAlgorithms, FleetAsks, FleetCablesStay, FleetCalls}
use Rattle.lagfleet.specs.Fleet.{FleetEvent, FleetForces, FleetReceives, FleetRepeats, FleetRun, FleetSteps, FleetTookFromFixedEnd, ForcesHeld}
use Rattle.lagfleet.specs.Fleet.{Gives_way, Hears_again, IsCabled, IsFirstFleet, IsFleetInvariant, IsOnCables, Makes_call, Restarts, StaysBy}
use Rattle.lagfleet.specs.Fleet.{fleet_setup, handed_up_in, is_held, recabled_by, recabled_by_all}
use Rattle.lagsystem.specs.declared.drive.HostCall.TheVariants as host
use Rattle.lagsystem.specs.declared.drive.HostReply.TheVariants as told
use Rattle.lagsystem.specs.declared.drive.Reply.TheVariants as reply
use Rattle.lagfleet.proofs.Doings.{does_lawfully, held_freed}

-- what stays true of a fleet: its systems have these configurations, and the network shows them
pub record Shown (setups : ℕ → SystemSetup) (systems : ℕ → SystemState) (net : Network) : Type 0 where
  pub setup : (t : ℕ) → model_setup (systems t) ≡ setups t
  pub view : (t : ℕ) → net.view t ≡ model_view (systems t)

-- acts leave the view in which the call ended
acts_view : (x : NetworkSetup) (s stamp : ℕ) (accepts : Act → Bool) (acts : List Act) (v : View) (w : Network)
    → (network_after_acts x s stamp accepts acts v w).view ≡ at_system w.view s v
acts_view x s stamp accepts [] v w = refl
acts_view x s stamp accepts (a ∷ more) v w = acts_view x s stamp accepts more v (record w {
  towards = towards_after x s w.whole (w.count s) (w.sent s) (accepts a) (Some a) w.towards;
  sent = at_system w.sent s (sent_after (Some a) (w.sent s));
  taken = at_system w.taken s (taken_after stamp (Some a) (w.taken s));
  source = at_system w.source s (source_after (x.far s) (Some a) (w.source s));
})

module _ (gives : FleetAlgorithms) (x : NetworkSetup) where
  -- one system is another, of this configuration, and the network shows it
  placed : (s : ℕ) (old : Fleet) (systems : ℕ → SystemState) (net : Network) (setups : ℕ → SystemSetup) → Shown x.setup old.systems old.net
      → systems ≡ at_system old.systems s (systems s) → net.view ≡ at_system old.net.view s (model_view (systems s))
      → model_setup (systems s) ≡ setups s → ((t : ℕ) → (t ≡ s → ⊥) → x.setup t ≡ setups t) → Shown setups systems net
  placed s old systems net setups i others view is same = record {
    setup = λ t. ap (λ (f : ℕ → SystemState). model_setup (f t)) others
        ∙ by_system s (λ t b. model_setup (cond b (systems s) (old.systems t)) ≡ setups t) is (λ t ne. i.setup t ∙ same t ne) t;
    view = λ t. ap (λ (f : ℕ → View). f t) view
        ∙ by_system s (λ t b. cond b (model_view (systems s)) (old.net.view t) ≡ model_view (cond b (systems s) (old.systems t)))
        refl (λ t ne. i.view t) t
        ∙ ap (λ (f : ℕ → SystemState). model_view (f t)) (sym others);
  }

  answered : (s : ℕ) (doing : Doing) (law : ModelCall) (stamp : ℕ) (accepts : Act → Bool) (old : Fleet) (before : Network)
      (systems : ℕ → SystemState) (after : Network) → Shown x.setup old.systems old.net → before.view ≡ old.net.view
      → Answers gives x.far s doing law stamp accepts old before systems after
      → NetworkCall x s law stamp old.net before after × Shown x.setup systems after
  answered s doing law stamp accepts old before systems after i same a =
      let both = does_lawfully (gives s) doing law a.acts (old.systems s) (systems s) a.does in
      let shown : View = model_view (systems s) in
      let lawful : LawfulMoves (x.setup s) law (before.view s) a.acts shown =
      subst (λ (v : View). LawfulMoves (x.setup s) law v a.acts shown)
      (sym (ap (λ (f : ℕ → View). f s) same ∙ i.view s))
      (subst (λ (u : SystemSetup). LawfulMoves u law (model_view (old.systems s)) a.acts shown) (i.setup s) both.0) in (
        calls_from x s law stamp old.net before after shown a.acts accepts a.count lawful a.counts a.leaves,
        placed s old systems after x.setup i a.others
            (ap (λ (w : Network). w.view) a.leaves
            ∙ acts_view (fleet_setup x.far old.systems) s stamp accepts a.acts shown before
            ∙ ap (λ (v : ℕ → View). at_system v s shown) same) (both.1 ∙ i.setup s) (λ t ne. refl),
      )

  still : (old new : Fleet) → Shown x.setup old.systems old.net → new.systems ≡ old.systems → new.net.view ≡ old.net.view → Shown x.setup new.systems new.net
  still old new i e f = record {
    setup = λ t. ap (λ (y : ℕ → SystemState). model_setup (y t)) e ∙ i.setup t;
    view = λ t. ap (λ (y : ℕ → View). y t) f ∙ i.view t ∙ ap (λ (y : ℕ → SystemState). model_view (y t)) (sym e);
  }

  -- the same systems in another network that shows the same
  renet : (systems : ℕ → SystemState) (v w : Network) → w.view ≡ v.view → Shown x.setup systems v → Shown x.setup systems w
  renet systems v w e i = record { setup = i.setup; view = λ t. ap (λ (y : ℕ → View). y t) e ∙ i.view t }

  alike : (old new : Fleet) → new ≡ old → Shown x.setup old.systems old.net → Shown x.setup new.systems new.net
  alike old new e = subst (λ (f : Fleet). Shown x.setup f.systems f.net) (sym e)

  -- an event of a fleet, after which these are the cables, is one of its network, or none; and moves none if this holds
  abbrev PlaysTo : Type 0 → NetworkSetup → Fleet → Fleet → Type 0
  PlaysTo stays y old new = (es : List NetworkEvent) × NetworkRun x es old.net new.net
      × (recabled_all x es ≡ y) × Shown y.setup new.systems new.net × (stays → CablesStay es)

  abbrev IsPlayed : Fleet → Fleet → Type 0
  IsPlayed old new = PlaysTo (Unit {0}) x old new

  one : (e : NetworkEvent) (old new : Fleet) → NetworkHappens x e old.net new.net × Shown (recabled x e).setup new.systems new.net
      → PlaysTo (CablesStay (e ∷ [])) (recabled x e) old new
  one e old new h = (e ∷ [], (new.net, h.0, refl), refl, h.1, λ c. c)

  nothing : (old new : Fleet) → Shown x.setup old.systems old.net → new ≡ old → IsPlayed old new
  nothing old new i e = ([], ap (λ (f : Fleet). f.net) e, refl, alike old new e i, λ c. c)

  received : (s p : ℕ) (octets : List ℕ) (answer : Reply) (accepts : Act → Bool) (o : Option Place) (line : List Message) (old new : Fleet) → x.far s p ≡ o
      → old.net.towards s p ≡ line → Shown x.setup old.systems old.net → FleetReceives gives x.far s p octets answer accepts o line old new → IsPlayed old new
  received s p octets answer accepts None line old new e f i z =
      let a = answered s (Makes (Call.Receive p octets) answer) (ModelCall.Receive p z.0) z.1 accepts old old.net new.systems new.net i refl
      z.3 in
      one (Hear s p z.0 z.1) old new ((e, a.0), a.1)
  received s p octets answer accepts (Some place) [] old new e f i z = absurd z
  received s p octets answer accepts (Some place) (Control pdu stamp ∷ ms) old new e f i z =
      let a = answered s (Makes (Call.Receive p octets) answer) (ModelCall.Receive p (Some pdu)) stamp accepts old old.net new.systems z.0 i refl
      z.2 in
      one (Deliver s p) old new (
        subst (λ l. DeliversFirstAt x s p l old.net new.net) (sym f) (z.0, a.0, z.3),
        renet new.systems z.0 new.net (ap (λ (w : Network). w.view) z.3) a.1,
      )
  received s p octets answer accepts (Some place) (Data origin g k serial ∷ ms) old new e f i z =
      let a = answered s (Makes (Call.Receive p octets) answer) (ModelCall.Receive p None) 0 accepts old old.net new.systems z.0 i refl z.1 in
      one (Deliver s p) old new (
        subst (λ l. DeliversFirstAt x s p l old.net new.net) (sym f) (
          handed_up_in answer,
          z.0,
          a.0,
          subst (λ o. new.net ≡ handed_up_from s o (handed_up_in answer) g k serial (without_first s p z.0)) (sym e) z.2,
        ),
        renet new.systems z.0 new.net (ap (λ (w : Network). w.view) z.2 ∙ same (handed_up_in answer)) a.1,
      )
    where
      same : (up : Option ℕ) → (handed_up_from s (Some place) up g k serial (without_first s p z.0)).view ≡ (z.0).view
      same (Some h) = refl
      same None = refl

  repeated : (s p : ℕ) (octets : List ℕ) (answer : Reply) (accepts : Act → Bool) (line : List Message) (old new : Fleet) → old.net.towards s p ≡ line
      → Shown x.setup old.systems old.net → FleetRepeats gives x.far s p octets answer accepts line old new → IsPlayed old new
  repeated s p octets answer accepts [] old new f i z = absurd z
  repeated s p octets answer accepts (Data origin g k serial ∷ ms) old new f i z = absurd z
  repeated s p octets answer accepts (Control pdu stamp ∷ ms) old new f i z =
      let a = answered s (Makes (Call.Receive p octets) answer) (ModelCall.Receive p (Some pdu)) stamp accepts old old.net new.systems new.net i
      refl z.1 in
      one (Repeat s p) old new (subst (λ l. RepeatsFirstAt x s p l old.net new.net) (sym f) a.0, a.1)

  forces : (s : ℕ) (agg : AggId) (k : ℕ) (doing : Doing) (accepts : Act → Bool) (old new : Fleet) → Shown x.setup old.systems old.net
      → FleetForces gives x.far s agg k doing accepts old new → IsPlayed old new
  forces s agg k doing accepts old new i z = let a = answered s doing (ModelCall.Force agg.0 k) 0 accepts old
      (record old.net { forced = at_system old.net.forced s (at_two (old.net.forced s) agg.0 k true) }) new.systems new.net i refl z in
      one (Force s agg.0 k) old new (inr a.0, a.1)

  restarts : (s : ℕ) (old new : Fleet) → Shown x.setup old.systems old.net → Restarts gives x.far s old new → IsPlayed old new
  restarts s old new i z = let first : model_view (new.systems s) ≡ first_view (x.setup s) =
      first_shows (new.systems s) z.promise.step.1 ∙ ap first_view (z.promise.configured ∙ i.setup s) in
      one (Restart s) old new (
        (
          z.count,
          subst (λ (v : View). CountsNetworkChanges old.net (record old.net {
            view = at_system old.net.view s v;
            towards = λ t q. cond (ends_at x s t q) [] (old.net.towards t q);
          }) z.count) first z.counts,
          z.leaves ∙ ap (λ (v : View). record old.net {
            view = at_system old.net.view s v;
            towards = λ t q. cond (ends_at x s t q) [] (old.net.towards t q);
            count = z.count;
          }) first,
        ),
        placed s old new.systems new.net x.setup i z.others (ap (λ (w : Network). w.view) z.leaves) (z.promise.configured ∙ i.setup s)
            (λ t ne. refl),
      )

  -- a call of which the law is told so
  plain : (s : ℕ) (doing : Doing) (law seen : ModelCall) (accepts : Act → Bool) (old new : Fleet) → Shown x.setup old.systems old.net
      → seen ≡ law → Answers gives x.far s doing seen 0 accepts old old.net new.systems new.net
      → NetworkCall x s law 0 old.net old.net new.net × Shown x.setup new.systems new.net
  plain s doing law seen accepts old new i e z = answered s doing law 0 accepts old old.net new.systems new.net i refl
      (subst (λ l. Answers gives x.far s doing l 0 accepts old old.net new.systems new.net) e z)

  made : (s : ℕ) (call : Call) (answer : Reply) (law : ModelCall) (accepts : Act → Bool) (old new : Fleet) → Shown x.setup old.systems old.net
      → (seen : ModelCall) × (seen ≡ law) × Answers gives x.far s (Makes call answer) seen 0 accepts old old.net new.systems new.net
      → NetworkCall x s law 0 old.net old.net new.net × Shown x.setup new.systems new.net
  made s call answer law accepts old new i z = plain s (Makes call answer) law z.0 accepts old new i z.1 z.2

  calls : (s : ℕ) (call : Call) (answer : Reply) (accepts : Act → Bool) (old new : Fleet) → Shown x.setup old.systems old.net
      → FleetCalls gives x.far s call answer accepts old new → IsPlayed old new
  calls s Call.Tick answer accepts old new i z = one (Tick s 1) old new (made s Call.Tick answer ModelCall.Tick accepts old new i z)
  calls s (Call.Transmit p) answer accepts old new i z = one (Emit s p) old new (made s (Call.Transmit p) answer ModelCall.Transmit accepts old new i z)
  calls s (Call.Set_link p up) answer accepts old new i z = one (Sense s p) old new
      (plain s (Makes (Call.Set_link p up) answer) (ModelCall.Set_link p (old.net.whole s p)) (ModelCall.Set_link p up) accepts old new i
      (ap (ModelCall.Set_link p) z.0) z.1)
  calls s (Call.Receive p octets) answer accepts old new i z =
      received s p octets answer accepts (x.far s p) (old.net.towards s p) old new refl refl i z
  calls s (Call.Configure p to) answer accepts old new i z =
      one (Configure s p (record { key = to.key; priority = to.priority; aggregatable = to.aggregatable })) old new
      (made s (Call.Configure p to) answer ModelCall.Configure accepts old new i z)
  calls s Call.Restart reply.Restart accepts old new i z = restarts s old new i z
  calls s Call.Restart answer accepts old new i z = absurd z
  calls s (Call.Offer agg frame) answer accepts old new i z = one (Offer s agg.0 frame) old new
      (made s (Call.Offer agg frame) answer ModelCall.Offer accepts old new i z)
  calls s (Call.Move_conversation agg k p) answer accepts old new i z = one (Move_conversation s agg.0 k p) old new
      (made s (Call.Move_conversation agg k p) answer ModelCall.Move_conversation accepts old new i z)
  calls s (Call.Force agg k) (reply.Force (Ok done)) accepts old new i z = forces s agg k (Forces agg k) accepts old new i z
  calls s (Call.Force agg k) (reply.Force (Err fault)) accepts old new i z = nothing old new i z.1
  calls s (Call.Force agg k) answer accepts old new i z = absurd z

  held : (s port count : ℕ) (old new : Fleet) → Shown x.setup old.systems old.net → ForcesHeld gives s port count old new → IsPlayed old new
  held s port count old new i z = let test = is_held port (old.systems s) in
      let both = held_freed port (old.systems s) (new.systems s) z.promise.0 z.promise.2 in
      let seen : model_view (new.systems s) ≡ freed_view test (old.net.view s) = both.0 ∙ ap (freed_view test) (sym (i.view s)) in
      one (Frees s test) old new (
        z.leaves ∙ ap (λ (v : View). record old.net {
          view = at_system old.net.view s v;
          forced = at_system old.net.forced s (also_forced test (old.net.forced s));
        }) seen,
        placed s old new.systems new.net x.setup i z.others (ap (λ (w : Network). w.view) z.leaves) (both.1 ∙ i.setup s) (λ t ne. refl),
      )

  asks : (s : ℕ) (call : HostCall) (answer : HostReply) (accepts : Act → Bool) (old new : Fleet) → Shown x.setup old.systems old.net
      → FleetAsks gives x.far s call answer accepts old new → IsPlayed old new
  asks s (host.OfferConversation agg conv) (told.OfferConversation answer) accepts old new i z = one (Offer s agg.0 []) old new
      (plain s (Offers agg conv answer) ModelCall.Offer ModelCall.Offer accepts old new i refl z)
  asks s (host.LeaveConversation agg conv) (told.LeaveConversation answer) accepts old new i z = one (Move_conversation s agg.0 conv 0) old new
      (plain s (Leaves agg conv answer) ModelCall.Move_conversation ModelCall.Move_conversation accepts old new i refl z)
  asks s (host.Probe port) (told.Probe answer) accepts old new i z = one (Emit s port) old new
      (plain s (Probes port answer) ModelCall.Transmit ModelCall.Transmit accepts old new i refl z)
  asks s (host.Rest agg conv) (told.Rest (Ok done)) accepts old new i z = forces s agg conv (Rests agg conv) accepts old new i z
  asks s (host.Rest agg conv) (told.Rest (Err fault)) accepts old new i z = nothing old new i z.1
  asks s (host.ForcePort port) (told.ForcePort (Ok count)) accepts old new i z = held s port count old new i z
  asks s (host.ForcePort port) (told.ForcePort (Err fault)) accepts old new i z = nothing old new i z.1
  asks s call answer accepts old new i z = absurd z

  -- what happens on cables leaves views and configurations, and its law knows no configuration
  on_cables : (e : NetworkEvent) (old new : Network) (systems : ℕ → SystemState) → IsOnCables e → NetworkHappens (fleet_setup x.far systems) e old new
      → (new.view ≡ old.view) × (x.setup ≡ (recabled x e).setup) × NetworkHappens x e old new
  on_cables (Lose s p) old new systems h z = (ap (λ (w : Network). w.view) z, refl, z)
  on_cables (Cut s p) old new systems h z = (ap (λ (w : Network). w.view) z, refl, z)
  on_cables (Join s p) old new systems h z = (ap (λ (w : Network). w.view) z, refl, z)
  on_cables (Overtake s p line) old new systems h z = (ap (λ (w : Network). w.view) z.1, refl, z)
  on_cables (Pull s p) old new systems h z = (ap (λ (w : Network). w.view) z, refl, z)
  on_cables (Plug s p t q) old new systems h z = (ap (λ (w : Network). w.view) z.2, refl, z)
  on_cables e old new systems h z = absurd h

  steps : (e : FleetEvent) (old new : Fleet) → Shown x.setup old.systems old.net → FleetSteps gives x.far e old new
      → PlaysTo (StaysBy e) (recabled_by x e) old new
  steps (Makes_call s call answer accepts) old new i z = calls s call answer accepts old new i z
  steps (Asks_call s call answer accepts) old new i z = asks s call answer accepts old new i z
  steps (Changes_setting s setting answer) old new i z = one (Tick s 0) old new
      (plain s (Sets setting answer) ModelCall.Tick ModelCall.Tick (λ a. true) old new i refl z)
  steps (Hears_again s p octets answer accepts) old new i z =
      repeated s p octets answer accepts (old.net.towards s p) old new refl i z
  steps (Gives_way s setup) old new i z = let y = z.2.1 in
      one (Succeed s setup (model_view (new.systems s))) old new (
        (
          subst (λ (u : SystemSetup). IsAlikeSetup u setup) (i.setup s) z.2.0,
          record {
            follows = subst (λ (u : SystemSetup). IsSuccessor u (old.net.view s) (old.net.taken s) (model_view (new.systems s))) (i.setup s)
                y.follows;
            parties = y.parties;
            apart = y.apart;
          },
          z.2.2,
        ),
        placed s old new.systems new.net (at_system x.setup s setup) i z.1 (ap (λ (w : Network). w.view) z.2.2)
            (z.0 ∙ sym (there x.setup s setup)) (λ t ne. sym (elsewhere x.setup s setup t ne)),
      )
  steps (Befalls e) old new i z = let r = on_cables e old.net new.net old.systems z.0 z.2 in
      one e old new (r.2, subst (λ (setups : ℕ → SystemSetup). Shown setups new.systems new.net) r.1 (still old new i z.1 r.0))

stay_joined : (es fs : List NetworkEvent) → CablesStay es → CablesStay fs → CablesStay (es ++ fs)
stay_joined [] fs c d = d
stay_joined (Pull s p ∷ es) fs c d = absurd c
stay_joined (Plug s p t q ∷ es) fs c d = absurd c
stay_joined (e ∷ es) fs c d = stay_joined es fs c d

runs : (gives : FleetAlgorithms) (x : NetworkSetup) (es : List FleetEvent) (old new : Fleet) → Shown x.setup old.systems old.net
    → FleetRun gives x es old new → PlaysTo gives x (FleetCablesStay es) (recabled_by_all x es) old new
runs gives x [] old new i z = nothing gives x old new i z
runs gives x (e ∷ es) old new i z = let a = steps gives x e old z.0 i z.1 in
    let b = runs gives (recabled_by x e) es z.0 new a.3 z.2 in (
      a.0 ++ b.0,
      runs_joined x a.0 b.0 old.net z.0.net new.net a.1 (subst (λ y. NetworkRun y b.0 z.0.net new.net) (sym a.2) b.1),
      recabled_joined x a.0 b.0 ∙ ap (λ y. recabled_all y b.0) a.2 ∙ b.2,
      b.3,
      λ c. stay_joined a.0 b.0 (a.4 c.0) (b.4 c.1),
    )

-- from the start
fleet_runs : (gives : FleetAlgorithms) (far : ℕ → ℕ → Option Place) (es : List FleetEvent) (start end : Fleet)
    → IsFirstFleet far start → FleetRun gives (fleet_setup far start.systems) es start end
    → (events : List NetworkEvent)
    × NetworkRun (fleet_setup far start.systems) events (first_network (fleet_setup far start.systems)) end.net
    × (recabled_all (fleet_setup far start.systems) events ≡ recabled_by_all (fleet_setup far start.systems) es)
    × (FleetCablesStay es → CablesStay events)
    × ((s : ℕ) → end.net.view s ≡ model_view (end.systems s))
fleet_runs gives far es start end f z = let i : Shown (fleet_setup far start.systems).setup start.systems start.net = record {
  setup = λ t. refl;
  view = λ t. ap (λ (w : Network). w.view t) f.1 ∙ sym (first_shows (start.systems t) (f.0 t));
} in
    grind (arith, runs, fleet_setup)

fleet_setup_is : (far : ℕ → ℕ → Option Place) (systems : ℕ → SystemState) → IsCabled far → IsNetworkSetup (fleet_setup far systems)
fleet_setup_is far systems h = record { setup = λ s. configured_setup (systems s); cables = h }

-- what holds after each event of a network holds after each of a fleet
pub holds_of_fleet : (gives : FleetAlgorithms) (P : NetworkSetup → Network → Type 0) → IsNetworkInvariant P → IsFleetInvariant gives P
holds_of_fleet gives P h far events start end cabled first z = grind (arith, fleet_runs, fleet_setup, fleet_setup_is)

-- so does what follows from the facts
pub kept_of_fleet : (gives : FleetAlgorithms) (P : NetworkSetup → Network → Type 0)
    → ((x : NetworkSetup) (w : Network) → AllFine x w → P x w) → IsFleetInvariant gives P
kept_of_fleet gives P h = holds_of_fleet gives P (holds P h)

-- and what holds where no cable is moved
pub fixed_of_fleet : (gives : FleetAlgorithms) → TookFromFixedEnd → FleetTookFromFixedEnd gives
fixed_of_fleet gives h far events start end cabled first stays z s p a e d =
    let r = fleet_runs gives far events start end first z in
    (h (fleet_setup far start.systems) r.0 end.net (fleet_setup_is far start.systems cabled) (r.3 stays) r.1).1 s p a
    (ap (λ (v : View). v.port p) (r.4 s) ∙ e) d

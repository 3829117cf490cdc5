-- What the machines of a port keep, every setting keeps of each port, and so does what stands between two calls.
use Rattle.lagbeside.proofs.Common.{Bool, Err, List, None, Ok, Option, Result, Some, [], ap, false, inl, inr, refl, subst, suc, sym, zero, ℕ, ◌∙◌}
use Rattle.lagbeside.proofs.Common.{◌∷◌, ◌≡◌, AggId, Key, Unselected, with_mode, Machines, Reply, SystemFault, SystemPort, Call, Step}
use Rattle.lagbeside.proofs.Common.{choice_with_link, key_of, SetsPort, Setting, SettingStep, in_mode, is_held_so, is_in_mode, with_held, Settling}
use Rattle.lagbeside.proofs.Common.{IsSound, SystemState, port_index, with_table, Step-frame, all-get, all-set, found_place, AsideTimes, Asides}
use Rattle.lagbeside.proofs.Common.{IsAside, Runs}
use Rattle.lagtypes.specs.declared.party.Choice.{Choice}
use Rattle.lagsystem.specs.Uses.{choice_with_use}
use Rattle.std.proofs.Common.{true}
use native.Mathlib.Omega.{arith}
use Rattle.lagbeside.proofs.EachPort.{KeptBySettling, OfEach, settling_each, zip_kept}

-- what a setting itself does keeps P
abbrev pub KeptBySetting : (ℕ → Machines → Type 0) → Setting → Type 0
KeptBySetting P (Setting.Hold_port n held) = (p : Machines) → P n p → P n (record p { choice = Unselected })
KeptBySetting P (Setting.Set_mode n active short) = (p : Machines) → P n p → P n (with_mode active short p)
KeptBySetting P (Setting.Set_max_delay max_delay) = Unit {0}
KeptBySetting P (Setting.Set_max_links max_links) =
    (n : ℕ) (p : Machines) → p.enabled ≡ false → P n p → P n (record p { choice = Unselected })
KeptBySetting P (Setting.Set_in_use agg now) = (n : ℕ) (p : Machines) → P n p → P n (record p { choice = choice_with_use agg now p.choice })

-- an aggregator that is put in use leaves what is chosen
pub used_choice : (agg : AggId) (now : Bool) (c : Choice) → now ≡ true → choice_with_use agg now c ≡ c
used_choice agg now c e = grind arith

pub used_port : (agg : AggId) (now : Bool) (p : Machines) → now ≡ true → record p { choice = choice_with_use agg now p.choice } ≡ p
used_port agg now p e = ap (λ c. record p { choice = c }) (used_choice agg now p.choice e)

set_each : (P : ℕ → Machines → Type 0) → KeptBySettling P → (n : ℕ) (already : SystemPort → Bool) (change : SystemPort → SystemPort)
    → ((x : SystemPort) → x.number ≡ n → P x.number x.port → P (change x).number (change x).port) → (o : Option ℕ) (old new : SystemState)
    → port_index n old.system_ports ≡ o → SetsPort already change o old new → OfEach P old.system_ports → OfEach P new.system_ports
set_each P k n already change c None old new e h a = absurd h
set_each P k n already change c (Some i) old new e h a = elim h [
  | inl same ↦ subst (λ (s : SystemState). OfEach P s.system_ports) (sym same.1) a
  | inr settled ↦ (let b = settled.1.0 in
      let is : SystemPort → Type 0 = λ x. P x.number x.port in
      settling_each P k settled.0 new settled.2 (subst (OfEach P) (sym b.3)
      (all-set is old.system_ports i (change b.0) a (c b.0 (found_place n old.system_ports i b.0 e b.1) (all-get is old.system_ports i b.0 b.1 a)))))
]

held_kept : (P : ℕ → Machines → Type 0) (n : ℕ) (held : Bool) → ((p : Machines) → P n p → P n (record p { choice = Unselected }))
    → (x : SystemPort) → x.number ≡ n → P x.number x.port → P (with_held held x).number (with_held held x).port
held_kept P n held c x e a = grind arith

link_kept : (P : Machines → Type 0) (max_links : Option ℕ) (up : Bool) (p : Machines) → (up ≡ false → P p → P (record p { choice = Unselected }))
    → P p → P (record p { choice = choice_with_link max_links up p.choice })
link_kept P max_links up p c a = grind arith

pub Setting-each : (P : ℕ → Machines → Type 0) → KeptBySettling P → (old new : SystemState) (setting : Setting) (answer : Result Unit SystemFault)
    → KeptBySetting P setting → SettingStep old setting answer new → OfEach P old.system_ports → OfEach P new.system_ports
Setting-each P k old new (Setting.Hold_port n held) (Ok done) c h t = set_each P k n (is_held_so held) (with_held held)
    (held_kept P n held c) (port_index n old.system_ports) old new refl h t
Setting-each P k old new (Setting.Hold_port n held) (Err fault) c h t = subst (λ (s : SystemState). OfEach P s.system_ports) (sym h.same) t
Setting-each P k old new (Setting.Set_mode n active short) (Ok done) c h t = grind (arith, set_each, is_in_mode, in_mode, with_mode, port_index)
Setting-each P k old new (Setting.Set_mode n active short) (Err fault) c h t = grind arith
Setting-each P k old new (Setting.Set_max_delay max_delay) (Ok done) c h t = subst (λ (s : SystemState). OfEach P s.system_ports) (sym h) t
Setting-each P k old new (Setting.Set_max_delay max_delay) (Err fault) c h t = absurd h
Setting-each P k old new (Setting.Set_max_links max_links) (Ok done) c h t = settling_each P k h.1.0 new h.1.2
    (zip_kept (λ p q. q ≡ record p { choice = choice_with_link max_links p.enabled p.choice }) P P
    (λ n p q e a. subst (P n) (sym e) (link_kept (P n) max_links p.enabled p (c n p) a)) old.system_ports h.1.0.system_ports h.1.1.0 t)
Setting-each P k old new (Setting.Set_max_links max_links) (Err fault) c h t = grind arith
Setting-each P k old new (Setting.Set_in_use agg now) (Ok done) c h t = settling_each P k h.1.0 new h.1.2
    (zip_kept (λ p q. q ≡ record p { choice = choice_with_use agg now p.choice }) P P
    (λ n p q e a. subst (P n) (sym e) (c n p a)) old.system_ports h.1.0.system_ports h.1.1.0 t)
Setting-each P k old new (Setting.Set_in_use agg now) (Err fault) c h t = subst (λ (s : SystemState). OfEach P s.system_ports) (sym h.2) t

-- the aggregators and the configured ports stay

abbrev pub Stands : SystemState → SystemState → Type 0
Stands old new = (new.keys ≡ old.keys) × (new.ports ≡ old.ports)

stands_settled : (old mid new : SystemState) → Stands old mid → Settling mid new → Stands old new
stands_settled old mid new a h = grind arith

setting_stands : (old new : SystemState) (setting : Setting) (answer : Result Unit SystemFault) → SettingStep old setting answer new → Stands old new
setting_stands old new setting answer h = grind arith

-- what stands between two calls

module _ (Sets More : Setting → Type 0) (k : (setting : Setting) → Sets setting → More setting) where
  one_weaker : (old new : SystemState) → IsAside Sets old new → IsAside More old new
  one_weaker old new h = (h.0, elim h.1 [ inl e ↦ inl e | inr s ↦ inr (s.0, s.1, k s.0 s.2, s.3) ])

  times_weaker : (n : ℕ) (old new : SystemState) → AsideTimes Sets n old new → AsideTimes More n old new
  times_weaker zero old new h = one_weaker old new h
  times_weaker (suc n) old new h = (h.0, one_weaker old h.0 h.1, times_weaker n h.0 new h.2)

  asides_weaker : (old new : SystemState) → Asides Sets old new → Asides More old new
  asides_weaker old new h = (h.0, times_weaker h.0 old new h.1)

  pub runs_weaken : (gives : ℕ → ℕ → ℕ → Type 0) (old new : SystemState) (calls : List Call) (replies : List Reply) (states : List SystemState)
      → Runs Sets gives old calls replies states new → Runs More gives old calls replies states new
  runs_weaken gives old new [] [] [] h = asides_weaker old new h
  runs_weaken gives old new (call ∷ calls) (answer ∷ answers) (before ∷ states) h =
      (h.0, asides_weaker old before h.1, h.2, runs_weaken gives h.0 new calls answers states h.3)
  runs_weaken gives old new calls replies states h = absurd h

table_each : (P : ℕ → Machines → Type 0) (s t : SystemState) → t ≡ with_table s t.table → OfEach P s.system_ports → OfEach P t.system_ports
table_each P s t e a = subst (OfEach P) (sym (ap (λ (w : SystemState). w.system_ports) e)) a

module _ (Sets : Setting → Type 0) where
  times_sound : (n : ℕ) (old new : SystemState) → AsideTimes Sets n old new → IsSound new
  times_sound zero old new h = h.0
  times_sound (suc n) old new h = times_sound n h.0 new h.2

  pub asides_sound : (old new : SystemState) → Asides Sets old new → IsSound new
  asides_sound old new h = times_sound h.0 old new h.1

  one_stands : (old new : SystemState) → IsAside Sets old new → Stands old new
  one_stands old new h = elim h.1 [
    | inl e ↦ (ap (λ (s : SystemState). s.keys) e, ap (λ (s : SystemState). s.ports) e)
    | inr s ↦ setting_stands old new s.0 s.1 s.3
  ]

  times_stand : (n : ℕ) (old new : SystemState) → AsideTimes Sets n old new → Stands old new
  times_stand zero old new h = one_stands old new h
  times_stand (suc n) old new h = let a = one_stands old h.0 h.1 in let b = times_stand n h.0 new h.2 in (b.0 ∙ a.0, b.1 ∙ a.1)

  pub asides_stand : (old new : SystemState) → Asides Sets old new → Stands old new
  asides_stand old new h = times_stand h.0 old new h.1

  pub kept_key : (key : Key) (agg : AggId) (old new : SystemState) → Asides Sets old new → key_of old.keys agg.0 ≡ Some key → key_of new.keys agg.0 ≡ Some key
  kept_key key agg old new h k = ap (λ keys. key_of keys agg.0) (asides_stand old new h).0 ∙ k

  pub key_after : (key : Key) (agg : AggId) (gives : ℕ → ℕ → ℕ → Type 0) (old before mid : SystemState) (call : Call) (answer : Reply)
      → Asides Sets old before → Step gives before call answer mid → key_of old.keys agg.0 ≡ Some key → key_of mid.keys agg.0 ≡ Some key
  key_after key agg gives old before mid call answer h step k =
      ap (λ (s : SystemState). key_of s.keys agg.0) (Step-frame gives before call answer mid step) ∙ kept_key key agg old before h k

  module _ (P : ℕ → Machines → Type 0) (k : KeptBySettling P) (c : (setting : Setting) → Sets setting → KeptBySetting P setting) where
    one_each : (old new : SystemState) → IsAside Sets old new → OfEach P old.system_ports → OfEach P new.system_ports
    one_each old new h a = elim h.1 [ inl e ↦ table_each P old new e a | inr s ↦ Setting-each P k old new s.0 s.1 (c s.0 s.2) s.3 a ]

    times_each : (n : ℕ) (old new : SystemState) → AsideTimes Sets n old new → OfEach P old.system_ports → OfEach P new.system_ports
    times_each zero old new h a = one_each old new h a
    times_each (suc n) old new h a = times_each n h.0 new h.2 (one_each old h.0 h.1 a)

    pub asides_each : (old new : SystemState) → Asides Sets old new → OfEach P old.system_ports → OfEach P new.system_ports
    asides_each old new h a = times_each h.0 old new h.1 a

-- so calls with what stands between them leave the configured ports
pub runs_ports : (Sets : Setting → Type 0) (gives : ℕ → ℕ → ℕ → Type 0) (old new : SystemState) (calls : List Call) (replies : List Reply)
    (states : List SystemState) → Runs Sets gives old calls replies states new → new.ports ≡ old.ports
runs_ports Sets gives old new [] [] [] h = (asides_stand Sets old new h).1
runs_ports Sets gives old new (call ∷ calls) (answer ∷ answers) (before ∷ states) h =
    runs_ports Sets gives h.0 new calls answers states h.3 ∙ (ap (λ (s : SystemState). s.ports) (Step-frame gives before call answer h.0 h.2)
    ∙ (asides_stand Sets old before h.1).1)
runs_ports Sets gives old new calls replies states h = absurd h

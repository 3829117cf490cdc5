-- What a capture in pieces is after each call, by its history.
use Rattle.std.proofs.Common.{◌≡◌, ◌∙◌, ◌++◌, ◌<◌, ◌≤◌, ℕ, Bool, true, false, List, [], Some, ap, append-nil, cond, length, nat_lt, refl, subst, sym}
use Rattle.std.proofs.lemmas.Bool.{false≢true, le-ltb, lt-ltb}
use Rattle.lagtool_capture.proofs.JobLemmas.{fault_is, free_is}
use Rattle.lagtool_capture.proofs.ReadingLemmas.{stands_counts, stands_fed, stands_first, stands_lines, stands_refused, stands_reports}
use Rattle.lagtool_capture.proofs.ReadingLemmas.{stands_written}
use Rattle.lagtool_capture.specs.CaptureReadings.{Feeds, IsBefore, ReadingState, ended, is_read_on, summary_of}
use Rattle.lagtool_capture.specs.Noticing.{Follows, Log}
use Rattle.lagtool_capture.specs.Reports.{report, summary}
use Rattle.lagtool_capture.specs.declared.settings.Settings.{Settings}
use Rattle.lagpage.specs.Answers.{Tells}
use Rattle.lagpage.specs.Pieces.{Continues, Explains, History, IsBy, Turns, ended_at, fed_with, handed, opened, printed_of, said_at, status_at}
use Rattle.lagpage.specs.declared.pieces.Pieces.{Pieces}
use Rattle.lagpage.specs.declared.told.Told.{Told}

pub begins : (settings : Settings) (w : ReadingState) → IsBefore settings w → IsBy (opened settings) (record { reading = w; is_ended = false })
begins settings w before = record { ended = refl; explains = stands_first settings w before }

-- a piece behind a fault
pub fed_refused : (piece : List ℕ) (p : Pieces) → p.is_ended ≡ false → is_read_on p.reading ≡ false → Turns (fed_with piece) p p
fed_refused piece p e off h by = record { ended = by.ended; explains = so h.ended (sym by.ended ∙ e) by.explains }
  where
    so : (b : Bool) → b ≡ false → Explains b h.settings h.fed h.out p.reading → Explains b h.settings (cond b h.fed (h.fed ++ piece)) h.out p.reading
    so true is x = absurd (false≢true (sym is))
    so false is x = let (f, z) = fault_is p.reading.fault off in stands_refused h.settings h.fed h.out piece p.reading f x z

-- a piece that is read
pub fed_read : (piece : List ℕ) (p q : Pieces) → p.is_ended ≡ false → is_read_on p.reading ≡ true → q.is_ended ≡ p.is_ended
    → Feeds piece p.reading q.reading → Turns (fed_with piece) p q
fed_read piece p q e on same feeds h by = record { ended = same ∙ by.ended; explains = so h.ended (sym by.ended ∙ e) by.explains }
  where
    so : (b : Bool) → b ≡ false → Explains b h.settings h.fed h.out p.reading → Explains b h.settings (cond b h.fed (h.fed ++ piece)) h.out q.reading
    so true is x = absurd (false≢true (sym is))
    so false is x = stands_fed h.settings h.fed h.out piece p.reading q.reading x (free_is p.reading.fault on) feeds

pub ends : (p q : Pieces) → p.is_ended ≡ false → ((l : Log) → Follows l p.reading.noticed → q.reading ≡ ended l p.reading)
    → q.is_ended ≡ true → Turns ended_at p q
ends p q e closes is_ended h by = record { ended = is_ended; explains = so h.ended (sym by.ended ∙ e) by.explains }
  where
    so : (b : Bool) → b ≡ false → Explains b h.settings h.fed h.out p.reading → Explains true h.settings h.fed h.out q.reading
    so true is x = absurd (false≢true (sym is))
    so false is x = (
      stands_reports h.settings h.fed h.out p.reading q.reading x closes,
      stands_counts h.settings h.fed h.out p.reading q.reading (record q.reading { report = record q.reading.report { to_write = [] } }) x closes
          refl,
    )

pub handed_out : (p q : Pieces) → q.is_ended ≡ p.is_ended → q.reading ≡ record p.reading { report = record p.reading.report { to_write = [] } } → (h : History)
    → IsBy h p → IsBy (record h { out = h.out ++ p.reading.report.to_write }) q
handed_out p q same cleared h by = record { ended = same ∙ by.ended; explains = so h.ended by.explains }
  where
    so : (b : Bool) → Explains b h.settings h.fed h.out p.reading → Explains b h.settings h.fed (h.out ++ p.reading.report.to_write) q.reading
    so false x = stands_written h.settings h.fed h.out p.reading q.reading x cleared
    so true (all, counts) = (
      all ∙ sym (append-nil (h.out ++ p.reading.report.to_write))
          ∙ ap (λ (w : ReadingState). (h.out ++ p.reading.report.to_write) ++ w.report.to_write) (sym cleared),
      ap summary_of cleared ∙ counts,
    )

-- all that is printed, by what a capture in pieces holds
printed_is : (b : Bool) (settings : Settings) (fed out : List ℕ) (w : ReadingState) → Explains b settings fed out w
    → printed_of b settings fed ≡ out ++ w.report.to_write
printed_is false settings fed out w x = stands_lines settings fed out w x
printed_is true settings fed out w (all, counts) = all

status_is : (b : Bool) (settings : Settings) (fed out : List ℕ) (w : ReadingState) → Explains b settings fed out w
    → status_at b (summary_of w) ≡ status_at b (summary settings fed)
status_is false settings fed out w x = refl
status_is true settings fed out w (all, counts) = ap (status_at true) counts

said_is : (b : Bool) (settings : Settings) (fed out : List ℕ) (w : ReadingState) → Explains b settings fed out w
    → said_at b (summary_of w) ≡ said_at b (summary settings fed)
said_is false settings fed out w x = refl
said_is true settings fed out w (all, counts) = ap (said_at true) counts

abbrev TellsOf : Pieces → Told → Type 0
TellsOf p t = Tells (status_at p.is_ended (summary_of p.reading)) p.reading.report.to_write (said_at p.is_ended (summary_of p.reading)) t

tells_by : (h : History) (p : Pieces) (t : Told) → IsBy h p → TellsOf p t
    → Tells (status_at h.ended (summary h.settings h.fed)) p.reading.report.to_write (said_at h.ended (summary h.settings h.fed)) t
tells_by h p t by tells = let b = by.ended in record {
  octets = tells.octets ∙ ap (λ (k : Bool). p.reading.report.to_write ++ said_at k (summary_of p.reading)) b
      ∙ ap (λ l. p.reading.report.to_write ++ l) (said_is h.ended h.settings h.fed h.out p.reading by.explains);
  printed_is = tells.printed_is;
  status_is = tells.status_is ∙ ap (λ (k : Bool). status_at k (summary_of p.reading)) b
      ∙ status_is h.ended h.settings h.fed h.out p.reading by.explains;
}

-- a text that waits for more room
pub waits : (room count : ℕ) (p : Pieces) (t : Told) → count ≡ length t.octets.items → room < count → TellsOf p t
    → (h : History) → IsBy h p → Continues h room (Some p) t
waits room count p t counts short tells h by = record {
  rest = p.reading.report.to_write;
  all = printed_is h.ended h.settings h.fed h.out p.reading by.explains;
  tells = tells_by h p t by tells;
  held = subst (λ b. IsBy (record h { out = cond b h.out (h.out ++ p.reading.report.to_write) }) p)
      (sym (ap (nat_lt room) (sym counts) ∙ lt-ltb room count short)) by;
}

-- a text that is handed out
pub goes_out : (room count : ℕ) (p q : Pieces) (t : Told) → count ≡ length t.octets.items → count ≤ room → TellsOf p t
    → ((h : History) → IsBy h p → IsBy (record h { out = h.out ++ p.reading.report.to_write }) q) → (h : History) → IsBy h p → Continues h room (Some q) t
goes_out room count p q t counts fits tells out h by = record {
  rest = p.reading.report.to_write;
  all = printed_is h.ended h.settings h.fed h.out p.reading by.explains;
  tells = tells_by h p t by tells;
  held = subst (λ b. IsBy (record h { out = cond b h.out (h.out ++ p.reading.report.to_write) }) q)
      (sym (ap (nat_lt room) (sym counts) ∙ le-ltb room count fits)) (out h by);
}

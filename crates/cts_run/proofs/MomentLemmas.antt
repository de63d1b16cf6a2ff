-- Each time that a log can hold has a moment on the calendar, and each entry a line.
use Rattle.std.proofs.Common.{◌≡◌, ℕ, zero, suc, ◌+◌, ◌*◌, ◌/◌, ◌%◌, ◌<◌, ◌^◌, inl, inr, List, [], ◌∷◌, ◌++◌, refl, sym, ◌∙◌, ap, arith, rules, ℤ, pos, ◌+ℤ◌, ◌<ℤ◌, Bool, false, Some}
use Rattle.std.specs.List.{All}
use Rattle.std.proofs.lemmas.Bool.{cases_order}
use Rattle.std.proofs.lemmas.List.Elements.{All-head, All-tail}
use Rattle.hex.specs.Hex.{encode_lower}
use Rattle.jiff.proofs.Family.{civil_nanos-parts, days_from_civil-day, days_from_civil-next_month, days_from_civil-next_year, days_from_civil-max}
use Rattle.jiff.specs.Words.{datetime_text}
use Rattle.jiff_core.proofs.CalendarLemmas.{days_in_month_bounds}
use Rattle.jiff_core.proofs.SignedLemmas.{signed_arith}
use Rattle.jiff_core.proofs.StandardFacts.{known_days}
use Rattle.jiff_core.specs.Calendar.{days_from_civil, days_in_month}
use Rattle.jiff_core.specs.Date.{epoch_day}
use Rattle.jiff_core.specs.Time.{time_nanos}
use Rattle.jiff_core.specs.declared.civil.date.Date.{Date}
use Rattle.jiff_core.specs.declared.civil.datetime.DateTime.{DateTime}
use Rattle.jiff_core.specs.declared.civil.time.Time.{Time as TimeOfDay}
use Rattle.cts_def.specs.declared.time.Time.{Time}
use Rattle.cts_log.specs.Dumping.{IsDumpLine, IsMoment, mark, shown_name}
use Rattle.cts_log.specs.Logged.{Logged, FitsLogged}
use Rattle.cts_run.specs.Acts.{Act, puts}
use Rattle.cts_run.specs.Dump.{AreLines}

-- ---- days

abbrev Next : Date → Type 0
Next d = (e : Date) × (epoch_day e ≡ epoch_day d +ℤ pos 1)

-- within a month
next_day : (d : Date) → d.day < days_in_month d.year d.month → Next d
next_day d h = (
  record { year = d.year; month = d.month; day = d.day + 1; year_in = d.year_in; month_in = d.month_in; day_in = (omega arith, omega (arith, h)) },
  omega (arith, signed_arith, days_from_civil-day d.year d.month d.day (d.day + 1) d.day_in.0 (omega arith)),
)

-- at the end of a month, but for December
next_month : (d : Date) → d.day ≡ days_in_month d.year d.month → d.month < 12 → Next d
next_month d h k =
    let long = days_in_month_bounds d.year (d.month + 1) in (
      record { year = d.year; month = d.month + 1; day = 1; year_in = d.year_in; month_in = (omega arith, omega (arith, k)); day_in = (omega arith, omega (arith, long.1)) },
      days_from_civil-next_month d.year d.month d.day d.month_in.0 h,
    )

-- and there
next_year : (d : Date) → d.day ≡ 31 → d.month ≡ 12 → epoch_day d <ℤ pos 2932896 → Next d
next_year d h k low =
    let same : epoch_day d ≡ days_from_civil d.year 12 31 = ap (λ m. days_from_civil d.year m d.day) k ∙ ap (λ n. days_from_civil d.year 12 n) h in
    let not_last : (d.year ≡ pos 9999) → ⊥ = λ e. absurd (omega (arith, signed_arith, low, same ∙ (ap (λ y. days_from_civil y 12 31) e ∙ days_from_civil-max))) in (
      record { year = d.year +ℤ pos 1; month = 1; day = 1; year_in = (omega (arith, signed_arith, d.year_in), omega (arith, signed_arith, d.year_in, not_last)); month_in = (omega arith, omega arith); day_in = (omega arith, omega (arith, (days_in_month_bounds (d.year +ℤ pos 1) 1).1)) },
      days_from_civil-next_year d.year (d.year +ℤ pos 1) (omega (arith, signed_arith, d.year_in)) refl ∙ ap (λ n. n +ℤ pos 1) (sym same),
    )

december : (y : ℤ) (m : ℕ) → m ≡ 12 → days_in_month y m ≡ 31
december y m e = ap (days_in_month y) e

by_month : (d : Date) → d.day ≡ days_in_month d.year d.month → epoch_day d <ℤ pos 2932896 → Next d
by_month d h low =
    elim (cases_order d.month 12) [
      | inr (inl k) ↦ next_month d h k
      | inl k ↦ next_year d (h ∙ december d.year d.month k) k low
      | inr (inr k) ↦ absurd (omega (arith, k, d.month_in.1))
    ]

next_date : (d : Date) → epoch_day d <ℤ pos 2932896 → Next d
next_date d low =
    elim (cases_order d.day (days_in_month d.year d.month)) [
      | inr (inl h) ↦ next_day d h
      | inl h ↦ by_month d h low
      | inr (inr h) ↦ absurd (omega (arith, h, d.day_in.1))
    ]

epoch : Date
epoch = record { year = pos 1970; month = 1; day = 1; year_in = search rules; month_in = search rules; day_in = search rules }

-- each day from 1970-01-01 on, as far as years have four digits
date_of : (n : ℕ) → n < 2932896 → (d : Date) × (epoch_day d ≡ pos n)
unfolding epoch
date_of zero h = (epoch, known_days.0)
date_of (suc n) h =
    let before = date_of n (omega (arith, h)) in
    let next = next_date before.0 (omega (arith, signed_arith, before.1, h)) in
    (next.0, omega (arith, signed_arith, next.1, before.1))

-- ---- moments

-- the time of day of this second of a day, with nanoseconds
time_of : (r f : ℕ) → r < 86400 → f < 1000000000 → (t : TimeOfDay) × (time_nanos t ≡ r * 1000000000 + f)
time_of r f h k = (
  record { hour = r / 3600; minute = r % 3600 / 60; second = r % 60; subsec_nanosecond = f; hour_in = omega (arith, h); minute_in = omega arith; second_in = omega arith; subsec_in = k },
  omega arith,
)

moment_of : (t : Time) → t.seconds < 2 ^ 32 → t.micros < 2 ^ 32 → (text : List ℕ) × IsMoment t text
moment_of t h k =
    let seconds = t.seconds + t.micros / 1000000 in
    let date = date_of (seconds / 86400) (omega (arith, h, k)) in
    let time = time_of (seconds % 86400) (t.micros % 1000000 * 1000) (omega arith) (omega arith) in
    let at : DateTime = record { date = date.0; time = time.0 } in
    (datetime_text false 32 (Some 6) at, (at, omega (arith, signed_arith, civil_nanos-parts at, date.1, time.1), refl))

-- ---- lines

pub line_of : (fl : Bool) (e : Logged) → FitsLogged fl e → (line : List ℕ) × IsDumpLine e line
line_of fl e f =
    let m = moment_of e.heading.time f.heading.seconds f.heading.micros in
    (m.0 ++ (32 ∷ (shown_name e.heading.target ++ (32 ∷ (shown_name e.heading.packet ++ (32 ∷ (encode_lower e.bytes ++ (mark e.heading.stored ++ 10 ∷ []))))))), (m.0, m.1, refl))

pub lines_of : (fl : Bool) (es : List Logged) → All (FitsLogged fl) es → (acts : List Act) × AreLines es acts
lines_of fl [] a = ([], refl)
lines_of fl (e ∷ es) a =
    let line = line_of fl e (All-head (FitsLogged fl) e es a) in
    let more = lines_of fl es (All-tail (FitsLogged fl) e es a) in
    (puts line.0 ++ more.0, (line.0, more.0, line.1, more.1, refl))

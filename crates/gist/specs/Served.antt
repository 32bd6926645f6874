-- What a run of the program that ended well has done.
use Rattle.std.specs.Prelude.{◌≡◌, List, Result, Ok, Err, ◌⊎◌}
use Rattle.std.specs.Borrow.{Bor}
use Rattle.change_list.specs.Configs.{IsWithinLimits}
use Rattle.change_list.specs.declared.config.Config.{Config}
use Rattle.key_class.specs.Limits.{most_commits, most_pages}
use Rattle.key_class.specs.Rules.{Rules}
use Rattle.key_class.specs.declared.refusal.Fault.{Fault}
use Rattle.key_class.specs.declared.refusal.Fault.TheVariants as fault
use Rattle.key_class.specs.declared.refusal.Refusal.TheVariants as refusal
use Rattle.store.specs.States.{StoreState, new_store}
use Rattle.world.specs.States.{State as World, new_state as new_world}
use Rattle.interval_class.specs.Intervals.{interval_rules}
use Rattle.box_class.specs.Boxes.{box_rules}
use Rattle.set_class.specs.Sets.{set_rules}
use Rattle.query_text.specs.ClassTexts.{Texts}
use Rattle.query_text.specs.IntervalTexts.{interval_texts}
use Rattle.query_text.specs.BoxTexts.{box_texts}
use Rattle.query_text.specs.SetTexts.{set_texts}
use Rattle.front.specs.Conversations.{Exchange}
use Rattle.front.specs.Sessions.{ToldAll}
use Rattle.front.specs.Replays.{ReplayedAll}
use Rattle.clap.specs.Words.{Text}
use Rattle.storm.specs.Sizes.{IsStorm}
use Rattle.storm.specs.declared.limits.StormSize.{StormSize}
use Rattle.gist.specs.Storms.{TellsStorm}
use Rattle.gist.specs.CommandLine.{texts_of, AreWellFormed, GivesSettings, NameNothing}
use Rattle.gist.specs.declared.options.Class.{Class}
use Rattle.gist.specs.declared.options.Class.TheVariants as classes
use Rattle.gist.specs.declared.options.StoreOptions.{StoreOptions}
use Rattle.gist.specs.declared.options.ExitStatus.{ExitStatus}
use Rattle.gist.specs.declared.options.ExitStatus.TheVariants as exit_status
use Rattle.gist.specs.declared.options.Settings.{Settings}
use Rattle.gist.specs.declared.options.Settings.TheVariants as settings

-- the options with the greatest limits of pages and commits
abbrev pub limits_of : StoreOptions → Config
limits_of options = record { fan = options.fan; least = options.least; pages = most_pages; commits = most_commits }

-- All bytes of the reader were lines of a session over this store, and what was written answers them. In the end the
-- store's state agrees with the answers.
abbrev pub AnsweredOver : {K A : Type 0} → Texts K A → Rules K A → StoreState K A → Exchange → Type 0
AnsweredOver {K} {A} texts rules store io = (last : StoreState K A) × ToldAll texts rules store last io

-- the same for a new store of the class with these limits
abbrev pub AnswersSession : Class → Config → Exchange → Type 0
AnswersSession classes.Interval config io = AnsweredOver interval_texts interval_rules (new_store config) io
AnswersSession classes.Box config io = AnsweredOver box_texts box_rules (new_store config) io
AnswersSession classes.Set config io = AnsweredOver set_texts set_rules (new_store config) io

-- the limits are in range, and a whole session was answered
abbrev pub ServesOptions : StoreOptions → Exchange → Type 0
ServesOptions options io = IsWithinLimits (limits_of options) × AnswersSession options.class (limits_of options) io

-- All bytes of the reader were lines of events, which were steps of this world, and what was written answers them
abbrev pub EventsAnsweredOver : {K A : Type 0} → Texts K A → Rules K A → World K A → Exchange → Type 0
EventsAnsweredOver {K} {A} texts rules world io = (last : World K A) × ReplayedAll texts rules world last io

-- the same for a new world of the class with these limits
abbrev pub AnswersEvents : Class → Config → Exchange → Type 0
AnswersEvents classes.Interval config io = EventsAnsweredOver interval_texts interval_rules (new_world config) io
AnswersEvents classes.Box config io = EventsAnsweredOver box_texts box_rules (new_world config) io
AnswersEvents classes.Set config io = EventsAnsweredOver set_texts set_rules (new_world config) io

-- the limits are in range, and every line of events was answered
abbrev pub Replays : StoreOptions → Exchange → Type 0
Replays options io = IsWithinLimits (limits_of options) × AnswersEvents options.class (limits_of options) io

-- nothing was read, and a storm passed
abbrev pub PassesStorm : StormSize → Exchange → Type 0
PassesStorm limits io = (io.has_left ≡ io.had_left) × TellsStorm io.had io.has limits

-- what the settings ask for was done
abbrev pub Does : Settings → Exchange → Type 0
Does (settings.Serve options) io = ServesOptions options io
Does (settings.Replay options) io = Replays options io
Does (settings.Storm limits) io = PassesStorm limits io

-- the words of a command line give settings, and what these ask for was done
abbrev pub DoesAsked : List (Bor Text) → Exchange → Type 0
DoesAsked words io = (settings : Settings) × GivesSettings (texts_of words) settings × Does settings io

-- if a command ended well, this holds
abbrev pub IfWell : Result ExitStatus Fault → Type 0 → Type 0
IfWell returned P = returned ≡ Ok exit_status.Well → P

-- a number of the options is out of range
abbrev pub HaveBadLimits : StoreOptions → Type 0
HaveBadLimits options = ¬ IsWithinLimits (limits_of options)

-- a number of the settings is out of range
abbrev pub AreOutOfLimits : Settings → Type 0
AreOutOfLimits (settings.Serve options) = HaveBadLimits options
AreOutOfLimits (settings.Replay options) = HaveBadLimits options
AreOutOfLimits (settings.Storm limits) = ¬ IsStorm limits

-- the limits are refused
abbrev pub RefusesLimits : {T : Type 0} → Result T Fault → Type 0
RefusesLimits returned = returned ≡ Err (fault.Refused refusal.BadConfig)

-- the words are well-formed, and a number of the settings that they give is out of range
abbrev pub NameBadLimits : List Text → Type 0
NameBadLimits words = AreWellFormed words × ((settings : Settings) → GivesSettings words settings → AreOutOfLimits settings)

-- the words of a command line give no settings and don't ask for help or the version; or a number of their settings
-- is out of range
abbrev pub AreUnfit : List (Bor Text) → Type 0
AreUnfit words = NameNothing (texts_of words) ⊎ NameBadLimits (texts_of words)

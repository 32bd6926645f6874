-- The limits of a store and of a map, as C hands them in.
use Rattle.change_list.specs.declared.config.Config.{Config}
use Rattle.map.specs.declared.config.MapConfig.{MapConfig}
use Rattle.libgist.specs.declared.limits.Limits.{Limits}
use Rattle.libgist.specs.declared.limits.MapLimits.{MapLimits}

-- the same limits as a `Config`
abbrev pub config_of : Limits → Config
config_of limits = record { fan = limits.fan; least = limits.least; pages = limits.pages; commits = limits.commits }

-- the same limits as a `MapConfig`
abbrev pub map_config_of : MapLimits → MapConfig
map_config_of limits = record { store = config_of limits.limits; history = limits.history; identity = limits.identity }

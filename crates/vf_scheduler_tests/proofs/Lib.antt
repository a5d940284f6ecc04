mod Computing
mod Tables
mod WatchingTables

-- No other crate cites these.
mod FormerFiles

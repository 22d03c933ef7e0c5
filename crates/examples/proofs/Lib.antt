mod Stand
